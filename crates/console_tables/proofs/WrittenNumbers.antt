-- A number as it is printed: no more digits than its range has, and so in the form of a line.
use mathlib.Core.Path.{◌≡◌, refl}
use mathlib.Core.Bool.{true}
use mathlib.Core.List.{List}
use Prim.Native.Nat.{ℕ, suc, ◌^◌, ◌<◌, ◌≤◌}
use native.Mathlib.Omega.{arith}
use lib.Dec.{leb}
use lib.ListN.{length}
use borrow.Author.Tests.{le-leb}
use Rattle.byte_strings.specs.Strings.{is_not, all_of}
use Rattle.byte_strings.proofs.Flags.{and_first, and_second, and_both}
use Rattle.text_classes.specs.declared.Class.TheVariants.{Digit}
use Rattle.text_classes.proofs.ClassLaws.{class_plain}
use Rattle.text_decimals.specs.Decimals.{is_number}
use Rattle.text_decimal_writer.specs.Digits.{decimal_bytes}
use Rattle.text_decimal_writer.proofs.DigitLaws.{few_under}
use Rattle.text_decimal_writer.proofs.RoundTrip.{written_number, written_digits}

fewer : (digits low high : ℕ) (w : List ℕ) → is_number 10 low high w ≡ true → length w ≤ digits → is_number digits low high w ≡ true
unfolding is_number
fewer digits low high w e s =
    let t = and_second (leb 1 (length w)) _ e in
    and_both (leb 1 (length w)) _ (and_first (leb 1 (length w)) _ e) (and_both (leb (length w) digits) _ (le-leb (length w) digits s) (and_second (leb (length w) 10) _ t))

-- a number of a range whose highest number has at most d + 1 digits
pub written_in : (d low high v : ℕ) → low ≤ v → v ≤ high → high < 10 ^ suc d → high < 10 ^ 10 → is_number (suc d) low high (decimal_bytes v) ≡ true
unfolding decimal_bytes
written_in d low high v l u h t = fewer (suc d) low high (decimal_bytes v) (written_number v (omega arith) low high l u) (few_under 10 d v (omega arith))

-- it is a word
pub number_plain : (v : ℕ) → all_of (is_not 32) (decimal_bytes v) ≡ true
number_plain v = class_plain Digit 32 (decimal_bytes v) refl (written_digits v)
