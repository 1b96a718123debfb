-- A number that is written is read back.
use mathlib.Core.Path.{◌≡◌, refl, sym, ◌∙◌}
use mathlib.Core.Bool.{true, or-true}
use mathlib.Core.List.{List, [], ◌∷◌, ◌++◌}
use mathlib.Core.Logic.{◌⊎◌, ⊎_elim}
use Prim.Native.Nat.{ℕ, zero, suc, ◌+◌, ◌-◌, ◌*◌, ◌/◌, ◌%◌, ◌^◌, ◌≤◌, ◌<◌}
use native.Mathlib.Nat.{pow-suc}
use native.Mathlib.Omega.{arith}
use lib.Dec.{eqb}
use lib.ListN.{length, get_or, get_or-append}
use borrow.Author.Tests.{le-leb, ne_eqb}
use Rattle.byte_strings.specs.Strings.{all_of}
use Rattle.byte_strings.proofs.Below.{below_or}
use Rattle.byte_strings.proofs.StringLaws.{all_append}
use Rattle.text_classes.specs.Classes.{is_of, are_all}
use Rattle.text_classes.specs.declared.Class.TheVariants.{Digit}
use Rattle.text_decimals.specs.Decimals.{dec_from, decimal, is_unpadded, is_number}
use Rattle.text_decimal_writer.specs.Digits.{dec_digits, decimal_bytes, long_bytes}
use Rattle.text_decimal_writer.proofs.DigitLaws.{digits_none, digits_one, digits_more, few_digits, some_digits}

small : (v : ℕ) → (v < 10) ⊎ (10 ≤ v)
small v = below_or v 10

digit : (x : ℕ) → x < 10 → is_of Digit (48 + x) ≡ true
digit x h = rw (le-leb 48 (48 + x) (omega arith), le-leb (48 + x) 57 (omega arith))

-- all digits are digits
all_digits : (k v : ℕ) → all_of (is_of Digit) (dec_digits k v) ≡ true
all_digits zero v = rw digits_none
all_digits (suc k) v =
    ⊎_elim
    (λ (h : v < 10). rw (digits_one k v h, digit v h))
    (λ (h : 10 ≤ v). rw (digits_more k v h) (all_append (is_of Digit) (dec_digits k (v / 10)) ((48 + v % 10) ∷ []) (all_digits k (v / 10)) (rw (digit (v % 10) (omega arith)))))
    (small v)

dec_snoc : (w : ℕ) (xs : List ℕ) (x : ℕ) → dec_from w (xs ++ (x ∷ [])) ≡ dec_from w xs * 10 + (x - 48)
dec_snoc w [] x = refl
dec_snoc w (y ∷ ys) x = dec_snoc (w * 10 + (y - 48)) ys x

-- the digits say the number
dec_digits_lem : (k v : ℕ) → v < 10 ^ k → dec_from 0 (dec_digits k v) ≡ v
dec_digits_lem zero v h = rw digits_none (omega arith)
dec_digits_lem (suc k) v h =
    let p : 10 ^ suc k ≡ 10 ^ k * 10 = pow-suc 10 k in
    ⊎_elim
    (λ (l : v < 10). rw (digits_one k v l) (omega arith))
    (λ (l : 10 ≤ v). rw (digits_more k v l, dec_snoc, dec_digits_lem k (v / 10) (omega arith)) (omega arith))
    (small v)

-- the first digit is no zero, unless the number is
first_digit : (k v : ℕ) → 0 < v → v < 10 ^ k → get_or (dec_digits k v) 0 0 ≡ 48 → ⊥
first_digit zero v p h e = omega arith
first_digit (suc zero) v p h e = let d = rw (digits_one zero v h) at e in omega arith
first_digit (suc (suc k)) v p h e =
    let q : 10 ^ suc (suc k) ≡ 10 ^ suc k * 10 = pow-suc 10 (suc k) in
    ⊎_elim
    (λ (l : v < 10). let d = rw (digits_one (suc k) v l) at e in omega arith)
    (λ (l : 10 ≤ v).
    let d : get_or (dec_digits (suc k) (v / 10) ++ ((48 + v % 10) ∷ [])) 0 0 ≡ 48 = rw (digits_more (suc k) v l) at e in
    first_digit (suc k) (v / 10) (omega arith) (omega arith) (sym (get_or-append (dec_digits (suc k) (v / 10)) ((48 + v % 10) ∷ []) 0 0 (some_digits k (v / 10))) ∙ d))
    (small v)

-- one digit, or the first is no zero
no_zero : (v : ℕ) → v < 10 ^ 10 → is_unpadded (dec_digits 10 v) ≡ true
unfolding is_unpadded
no_zero v h =
    ⊎_elim
    (λ (l : v < 10). rw (digits_one 9 v l))
    (λ (l : 10 ≤ v). rw (ne_eqb (get_or (dec_digits 10 v) 0 0) 48 (first_digit 10 v (omega arith) h)) (or-true (eqb (length (dec_digits 10 v)) 1)))
    (small v)

-- THE LAW: a number that is written is a number without leading zero, and says what was written
module _ (v : ℕ) (h : v < 10 ^ 10) where
  pub written_reads : decimal (decimal_bytes v) ≡ v
  unfolding decimal_bytes
  written_reads = dec_digits_lem 10 v h

  pub written_number : (low high : ℕ) → low ≤ v → v ≤ high → is_number 10 low high (decimal_bytes v) ≡ true
  unfolding is_number decimal_bytes are_all
  written_number low high l u =
      rw (le-leb 1 (length (dec_digits 10 v)) (some_digits 9 v), le-leb (length (dec_digits 10 v)) 10 (few_digits 10 v), all_digits 10 v, no_zero v h, dec_digits_lem 10 v h, le-leb low v l, le-leb v high u)

pub written_digits : (v : ℕ) → are_all Digit (decimal_bytes v) ≡ true
unfolding decimal_bytes are_all
written_digits v = all_digits 10 v

pub written_short : (v : ℕ) → length (decimal_bytes v) ≤ 10
unfolding decimal_bytes
written_short v = few_digits 10 v

-- ten bytes are room enough for a number, and twenty for a long one
pub written_room : (a k v n : ℕ) → a + k ≤ n → 10 ≤ k → a + length (decimal_bytes v) ≤ n
written_room a k v n h l = omega (arith, written_short v)

pub long_room : (a k v n : ℕ) → a + k ≤ n → 20 ≤ k → a + length (long_bytes v) ≤ n
unfolding long_bytes
long_room a k v n h l = omega (arith, few_digits 20 v)
