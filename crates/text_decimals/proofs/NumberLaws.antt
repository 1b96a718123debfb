-- What a number in a range is.
use mathlib.Core.Path.{◌≡◌}
use mathlib.Core.Bool.{Bool, true, false, and-false, ◌&&◌}
use mathlib.Core.List.{List}
use Prim.Native.Nat.{ℕ, ◌≤◌, ◌<◌}
use lib.Dec.{leb}
use lib.ListN.{length}
use borrow.Author.Tests.{lt-leb, leb-true}
use Rattle.byte_strings.proofs.Flags.{and_first, and_second}
use Rattle.text_classes.specs.Classes.{are_all}
use Rattle.text_classes.specs.declared.Class.TheVariants.{Digit}
use Rattle.text_decimals.specs.Decimals.{decimal, is_unpadded, is_number}

-- too few digits, and too many
module _ (digits low high : ℕ) (v : List ℕ) where
  pub none : length v < 1 → false ≡ is_number digits low high v
  unfolding is_number
  none h = rw (lt-leb 1 (length v) h)

  pub many : digits < length v → false ≡ is_number digits low high v
  unfolding is_number
  many h = rw (lt-leb (length v) digits h, and-false)

-- a number in a range is all digits, at most so many, and its value lies in the range
module _ (digits low high : ℕ) (v : List ℕ) (e : is_number digits low high v ≡ true) where
  abbrev range : Bool
  range = leb low (decimal v) && leb (decimal v) high

  tail : (leb (length v) digits && (are_all Digit v && (is_unpadded v && range))) ≡ true
  unfolding is_number
  tail = and_second (leb 1 (length v)) _ e

  pub number_short : length v ≤ digits
  number_short = leb-true (length v) digits (and_first (leb (length v) digits) (are_all Digit v && (is_unpadded v && range)) tail)

  digits_tail : (are_all Digit v && (is_unpadded v && range)) ≡ true
  digits_tail = and_second (leb (length v) digits) _ tail

  pub number_digits : are_all Digit v ≡ true
  number_digits = and_first (are_all Digit v) (is_unpadded v && range) digits_tail

  pub number_most : decimal v ≤ high
  number_most = leb-true (decimal v) high (and_second (leb low (decimal v)) _ (and_second (is_unpadded v) range (and_second (are_all Digit v) (is_unpadded v && range) digits_tail)))

  pub number_least : low ≤ decimal v
  number_least = leb-true low (decimal v) (and_first (leb low (decimal v)) (leb (decimal v) high) (and_second (is_unpadded v) range (and_second (are_all Digit v) (is_unpadded v && range) digits_tail)))
