-- One field or two, written one after the other; and that what is written has room.
use mathlib.Core.Path.{◌≡◌}
use mathlib.Core.List.{List, [], ◌∷◌}
use Prim.Native.Nat.{ℕ, ◌+◌, ◌≤◌}
use native.Mathlib.Omega.{arith}
use lib.ListN.{length, take}
use borrow.Table.Elements.{take-le}
use Rattle.byte_strings.specs.Strings.{is_not, run}
use Rattle.byte_strings.specs.Wrote.{Wrote}
use Rattle.byte_strings.proofs.Writes.{then, none}
use Rattle.field_values.specs.Values.{Value, string, field_bytes, payload_bytes}
use Rattle.row_types.specs.Lists.{trimmed}

pub one_field : {d e : List ℕ} {a b : ℕ} (x : Value) → Wrote d a (field_bytes x) e b → Wrote d a (payload_bytes (x ∷ [])) e b
one_field {d} {e} {a} {b} x w = then w (none e b)

pub two_fields : {d e f : List ℕ} {a b c : ℕ} (x y : Value) → Wrote d a (field_bytes x) e b → Wrote e b (field_bytes y) f c → Wrote d a (payload_bytes (x ∷ y ∷ [])) f c
two_fields {d} {e} {f} {a} {b} {c} x y v w = then v (one_field y w)

-- put_started: after the KMCID v, the first n bytes of the request's space
module _ (a b n : ℕ) (v row : List ℕ) (i : b ≡ a + length v + 2) (l : length v ≤ 40) (z : length row ≡ 700) where
  pub request_fits : (m k : ℕ) → a + 744 ≤ m → k ≡ m → b + length (take n row) + 2 ≤ k
  request_fits m k h e = omega (arith, take-le n row)

  pub request_short : (r : ℕ) → r ≡ b + length (take n row) + 2 → r ≤ a + 744
  request_short r e = omega (arith, take-le n row)

-- put_card: v is the card without its zeros
module _ (a : ℕ) (card v : List ℕ) (p : v ≡ trimmed card) (l : length card ≤ 256) where
  pub shown_fits : (m : ℕ) → a + 258 ≤ m → a + length v + 2 ≤ m
  unfolding trimmed
  shown_fits m h = rw p (omega (arith, take-le (run (is_not 0) card) card))

  pub shown_short : (r : ℕ) → r ≡ a + length v + 2 → r ≤ a + 258
  unfolding trimmed
  shown_short r e = let h = rw p at e in omega (arith, take-le (run (is_not 0) card) card)

  pub shown : {d e : List ℕ} {r : ℕ} → Wrote d a (field_bytes (string v)) e r → Wrote d a (payload_bytes (string (trimmed card) ∷ [])) e r
  shown w = one_field (string (trimmed card)) (rw (← p) w)

-- put_loaded: after the number, the card
module _ (a b : ℕ) (i : b ≤ a + 12) where
  pub card_fits : (m k : ℕ) → a + 270 ≤ m → k ≡ m → b + 258 ≤ k
  card_fits m k h e = omega arith

  pub card_short : (r : ℕ) → r ≤ b + 258 → r ≤ a + 270
  card_short r h = omega arith

pub then_fields : {d e f : List ℕ} {a b c : ℕ} (x : Value) (ys : List Value) → Wrote d a (field_bytes x) e b → Wrote e b (payload_bytes ys) f c → Wrote d a (payload_bytes (x ∷ ys)) f c
then_fields x ys v w = then v w
