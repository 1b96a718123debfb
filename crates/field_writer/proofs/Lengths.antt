-- How many bytes fields take.
use mathlib.Core.Path.{◌≡◌}
use mathlib.Core.List.{List, [], ◌∷◌}
use Prim.Native.Nat.{ℕ, ◌+◌, ◌≤◌}
use native.Mathlib.Omega.{arith}
use lib.ListN.{length, length-append}
use Rattle.text_decimal_writer.specs.Digits.{decimal_bytes}
use Rattle.text_decimal_writer.proofs.RoundTrip.{written_short}
use Rattle.field_values.specs.Values.{Value, number, string, octets, content_bytes, field_bytes, payload_bytes}

pub content_length : (t : ℕ) (v : List ℕ) → length (content_bytes t v) ≡ length v + 2
unfolding content_bytes
content_length t v = omega (arith, length-append v (126 ∷ []))

pub string_length : (v : List ℕ) → length (field_bytes (string v)) ≡ length v + 2
string_length v = content_length 80 v

pub octets_length : (v : List ℕ) → length (field_bytes (octets v)) ≡ length v + 2
octets_length v = content_length 72 v

pub number_short : (n : ℕ) → length (field_bytes (number n)) ≤ 12
number_short n = omega (arith, content_length 78 (decimal_bytes n), written_short n)

-- twelve bytes are room enough for a number
pub number_room : (a k v n : ℕ) → a + k ≤ n → 12 ≤ k → a + length (field_bytes (number v)) ≤ n
number_room a k v n h l = omega (arith, number_short v)

-- a field, and fields after it
pub payload_length : (v : Value) (vs : List Value) → length (payload_bytes (v ∷ vs)) ≡ length (field_bytes v) + length (payload_bytes vs)
payload_length v vs = length-append (field_bytes v) (payload_bytes vs)
