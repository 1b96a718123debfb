-- What is written as four digits is read back, and what is read is what would be written.
use mathlib.Core.Path.{◌≡◌, refl, ap}
use mathlib.Core.List.{List, [], ◌∷◌, ◌++◌}
use Prim.Native.Nat.{ℕ, ◌+◌, ◌*◌, ◌/◌, ◌%◌, ◌<◌}
use native.Mathlib.Omega.{arith}
use lib.ListN.{length}
use borrow.Author.Tests.{le-leb}
use Rattle.std.specs.Prelude.{Option, Some}
use Rattle.std.proofs.lemmas.Bool.Decides.{nat_tests}
use Rattle.check_digits.specs.Hex.{hex_digit, hex_value, hex4, from_digits, read_hex4}

pub digit_back : (k : ℕ) → k < 16 → hex_value (hex_digit k) ≡ Some k
unfolding hex_value hex_digit
digit_back k h = grind (arith, nat_tests)

-- a digit's number is below 16
value_small : (b x : ℕ) → hex_value b ≡ Some x → x < 16
unfolding hex_value
value_small b x e = grind (arith, nat_tests)

-- a byte that is a digit is the digit of its number
digit_only : (b x : ℕ) → hex_value b ≡ Some x → hex_digit x ≡ b
unfolding hex_value hex_digit
digit_only b x e = grind (arith, nat_tests)

-- THE LAW: four digits that were written, with anything after them, are read as their number
pub hex4_read : (n : ℕ) (r : List ℕ) → n < 65536 → read_hex4 (hex4 n ++ r) 0 ≡ Some n
unfolding read_hex4
hex4_read n r h =
    simp (
      le-leb (0 + 4) (length (hex4 n ++ r)) (omega arith),
      digit_back (n / 4096) (omega arith),
      digit_back (n / 256 % 16) (omega arith),
      digit_back (n / 16 % 16) (omega arith),
      digit_back (n % 16) (omega arith),
    ) (ap Some (omega arith))

-- and only the digits of a number are read as it
module _ (a b c d v : ℕ) where
  of_values : (p q r s : Option ℕ) → hex_value a ≡ p → hex_value b ≡ q → hex_value c ≡ r → hex_value d ≡ s → from_digits p q r s ≡ Some v → hex4 v ≡ a ∷ b ∷ c ∷ d ∷ []
  of_values (Some x) (Some y) (Some z) (Some w) e f g h q =
      let i : x < 16 = value_small a x e in
      let j : y < 16 = value_small b y f in
      let k : z < 16 = value_small c z g in
      let l : w < 16 = value_small d w h in
      let n : x * 4096 + y * 256 + z * 16 + w ≡ v = cc in
      let n1 : v / 4096 ≡ x = omega arith in
      let n2 : v / 256 % 16 ≡ y = omega arith in
      let n3 : v / 16 % 16 ≡ z = omega arith in
      let n4 : v % 16 ≡ w = omega arith in
      rw (n1, n2, n3, n4, digit_only a x e, digit_only b y f, digit_only c z g, digit_only d w h)
  of_values p q r s e f g h i = absurd (cc)

  pub hex4_only : from_digits (hex_value a) (hex_value b) (hex_value c) (hex_value d) ≡ Some v → hex4 v ≡ a ∷ b ∷ c ∷ d ∷ []
  hex4_only q = of_values _ _ _ _ refl refl refl refl q
