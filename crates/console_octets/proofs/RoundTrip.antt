-- Octets that were written as digits are read back; their digits are what a field of hex octets holds.
use mathlib.Core.Path.{◌≡◌, refl}
use mathlib.Core.Bool.{true}
use mathlib.Core.List.{List, [], ◌∷◌}
use Prim.Native.Nat.{ℕ, ◌/◌, ◌%◌, ◌<◌}
use native.Mathlib.Omega.{arith}
use lib.Dec.{eqb}
use lib.ListN.{length}
use borrow.Author.Tests.{ltb-true, eq-eqb}
use Rattle.byte_strings.specs.Strings.{all_of}
use Rattle.byte_strings.proofs.Below.{at_below}
use Rattle.byte_strings.proofs.Flags.{yes, and_first, and_second, and_both}
use Rattle.byte_strings.proofs.StringLaws.{is_byte}
use Rattle.check_digits.specs.Hex.{hex_digit}
use Rattle.check_digits.proofs.RoundTrip.{digit_back}
use Rattle.text_classes.specs.Classes.{is_of, are_all}
use Rattle.text_classes.specs.declared.Class.TheVariants.{Hexadecimal}
use Rattle.field_values.specs.Values.{is_octets}
use Rattle.console_octets.specs.Octets.{digits_of, octet_of, octets_of}
use Rattle.console_octets.proofs.OctetLaws.{digits_length}

octet_back : (b : ℕ) → b < 256 → octet_of (hex_digit (b / 16)) (hex_digit (b % 16)) ≡ b
unfolding octet_of
octet_back b h = rw (digit_back (b / 16) (omega arith), digit_back (b % 16) (omega arith)) (omega arith)

digit_hex : (k : ℕ) → k < 16 → is_of Hexadecimal (hex_digit k) ≡ true
unfolding hex_digit
digit_hex k h = yes (is_of Hexadecimal (hex_digit k)) (at_below (λ n. is_of Hexadecimal (hex_digit n)) 16 tt k h)

-- THE LAW: octets written as digits are read back
pub octets_back : (s : List ℕ) → all_of is_byte s ≡ true → octets_of (digits_of s) ≡ s
octets_back [] e = refl
octets_back (b ∷ bs) e = rw (octet_back b (ltb-true b 256 (and_first (is_byte b) (all_of is_byte bs) e)), octets_back bs (and_second (is_byte b) (all_of is_byte bs) e))

-- and the digits are hexadecimal, two an octet
digits_all : (s : List ℕ) → all_of is_byte s ≡ true → all_of (is_of Hexadecimal) (digits_of s) ≡ true
digits_all [] e = refl
digits_all (b ∷ bs) e =
    let h : b < 256 = ltb-true b 256 (and_first (is_byte b) (all_of is_byte bs) e) in
    rw (digit_hex (b / 16) (omega arith), digit_hex (b % 16) (omega arith)) (digits_all bs (and_second (is_byte b) (all_of is_byte bs) e))

pub digits_hexadecimal : (s : List ℕ) → all_of is_byte s ≡ true → are_all Hexadecimal (digits_of s) ≡ true
unfolding are_all
digits_hexadecimal s e = digits_all s e

pub digits_octets : (s : List ℕ) → all_of is_byte s ≡ true → is_octets (digits_of s) ≡ true
unfolding is_octets
digits_octets s e =
    and_both (eqb (length (digits_of s) % 2) 0) (are_all Hexadecimal (digits_of s)) (eq-eqb (length (digits_of s) % 2) 0 (omega (arith, digits_length s))) (digits_hexadecimal s e)
