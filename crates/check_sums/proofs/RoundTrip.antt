-- Every byte string ends in its check value once the digits stand behind it, and no other four bytes pass.
use mathlib.Core.Path.{◌≡◌, refl, sym, ap, ◌∙◌}
use mathlib.Core.Bool.{Bool, true}
use mathlib.Core.List.{List, [], ◌∷◌, ◌++◌}
use Prim.Native.Nat.{ℕ, zero, suc, ◌+◌, ◌-◌, ◌/◌, ◌%◌, ◌<◌}
use native.Mathlib.Omega.{arith}
use lib.Dec.{T, leb, lit<}
use lib.ListN.{length, get_or, take, drop, length-append, take-append-drop}
use lib.Seq.{take_at, drop_at}
use borrow.Author.Tests.{le-leb, ltb-true}
use Rattle.byte_strings.specs.Strings.{all_of}
use Rattle.byte_strings.proofs.Flags.{yes, and_first, and_second}
use Rattle.byte_strings.proofs.StringLaws.{is_byte, same_self, same_equal}
use Rattle.byte_strings.proofs.Below.{all_below, at_below}
use Rattle.check_crc.proofs.Bound.{crc_bound}
use Rattle.check_digits.specs.Hex.{hex_digit, hex4}
use Rattle.check_sums.specs.Checksum.{sum_of, sum_digits, ends_in_sum}
use Rattle.check_sums.specs.declared.Kind.{Kind}
use Rattle.check_sums.specs.declared.Kind.TheVariants.{Arc, Modbus}

byte_at : (s : List ℕ) → all_of is_byte s ≡ true → (i : ℕ) → get_or s i 0 < 256
byte_at [] e i = lit< tt
byte_at (b ∷ bs) e zero = ltb-true b 256 (and_first (is_byte b) (all_of is_byte bs) e)
byte_at (b ∷ bs) e (suc i) = byte_at bs (and_second (is_byte b) (all_of is_byte bs) e) i

-- the check value of bytes fits its four digits
pub sum_bound : (k : Kind) (s : List ℕ) → all_of is_byte s ≡ true → sum_of k s < 65536
sum_bound Arc s e = crc_bound 0 s (lit< tt) (byte_at s e)
sum_bound Modbus s e = crc_bound 0xFFFF s (lit< tt) (byte_at s e)

-- the digits pass each test that the sixteen digits pass
pub digits_pass : (f : ℕ → Bool) → T (all_below (λ n. f (hex_digit n)) 16) → (k : Kind) (s : List ℕ) → all_of is_byte s ≡ true → all_of f (sum_digits k s) ≡ true
unfolding sum_digits
digits_pass f t k s e =
    let n = sum_of k s in
    let h : n < 65536 = sum_bound k s e in
    let one : (m : ℕ) → m < 16 → f (hex_digit m) ≡ true = λ m l. yes (f (hex_digit m)) (at_below (λ i. f (hex_digit i)) 16 t m l) in
    rw (one (n / 4096) (omega arith), one (n / 256 % 16) (omega arith), one (n / 16 % 16) (omega arith), one (n % 16) (omega arith))

-- THE LAW: what the digits stand behind ends in its check value
pub sum_ends : (k : Kind) (s : List ℕ) → ends_in_sum k (s ++ sum_digits k s) ≡ true
unfolding ends_in_sum sum_digits
sum_ends k s =
    let t = hex4 (sum_of k s) in
    let m : length (s ++ t) ≡ length s + 4 = length-append s t in
    let n : length s + 4 - 4 ≡ length s = omega arith in
    rw (m, n, take_at s t (length s) refl, drop_at s t (length s) refl, le-leb 4 (length s + 4) (omega arith)) (same_self t)

-- and what ends in its check value is the bytes before the last four, then their digits
pub sum_only : (k : Kind) (s : List ℕ) → ends_in_sum k s ≡ true → s ≡ take (length s - 4) s ++ sum_digits k (take (length s - 4) s)
unfolding ends_in_sum
sum_only k s e =
    let n = length s - 4 in
    let b = take n s in
    let q : drop n s ≡ sum_digits k b = same_equal (drop n s) (sum_digits k b) (and_second (leb 4 (length s)) _ e) in
    sym (ap (λ (x : List ℕ). b ++ x) (sym q) ∙ take-append-drop n s)
