-- The decimal digits of a number, and how many there are.
use mathlib.Core.Path.{◌≡◌, refl}
use mathlib.Core.List.{[], ◌∷◌, ◌++◌}
use mathlib.Core.Logic.{⊎_elim}
use Prim.Native.Nat.{ℕ, zero, suc, ◌+◌, ◌/◌, ◌%◌, ◌^◌, ◌<◌, ◌≤◌}
use native.Mathlib.Nat.{pow-suc, one-le-pow}
use native.Mathlib.Omega.{arith}
use lib.ListN.{length, length-append}
use borrow.Author.Tests.{lt-ltb, le-ltb}
use Rattle.byte_strings.proofs.Below.{below_or}
use Rattle.text_decimal_writer.specs.Digits.{dec_digits}

-- no digits where there is room for none
pub digits_none : (v : ℕ) → dec_digits 0 v ≡ []
unfolding dec_digits
digits_none v = refl

pub digits_one : (k v : ℕ) → v < 10 → dec_digits (suc k) v ≡ (48 + v) ∷ []
unfolding dec_digits
digits_one k v h = rw (lt-ltb v 10 h)

pub digits_more : (k v : ℕ) → 10 ≤ v → dec_digits (suc k) v ≡ dec_digits k (v / 10) ++ ((48 + v % 10) ∷ [])
unfolding dec_digits
digits_more k v h = rw (le-ltb v 10 h)

-- there are at most k digits
pub few_digits : (k v : ℕ) → length (dec_digits k v) ≤ k
few_digits zero v = rw digits_none (omega arith)
few_digits (suc k) v =
    let f = few_digits k (v / 10) in
    ⊎_elim
    (λ (h : v < 10). rw (digits_one k v h) (omega arith))
    (λ (h : 10 ≤ v). rw (digits_more k v h, length-append) (omega arith))
    (below_or v 10)

-- there is a digit
pub some_digits : (k v : ℕ) → 0 < length (dec_digits (suc k) v)
some_digits k v =
    ⊎_elim
    (λ (h : v < 10). rw (digits_one k v h) (omega arith))
    (λ (h : 10 ≤ v). rw (digits_more k v h, length-append) (omega arith))
    (below_or v 10)

-- there are at most m digits below the power of ten of that many, and more from it on
pub few_under : (k m v : ℕ) → v < 10 ^ suc m → length (dec_digits k v) ≤ suc m
few_under zero m v h = rw digits_none (omega arith)
few_under (suc k) zero v h = rw (digits_one k v h) (omega arith)
few_under (suc k) (suc m) v h =
    let p = pow-suc 10 (suc m) in
    ⊎_elim
    (λ (l : v < 10). rw (digits_one k v l) (omega arith))
    (λ (l : 10 ≤ v).
    let f = few_under k m (v / 10) (omega arith) in
    rw (digits_more k v l, length-append) (omega arith))
    (below_or v 10)

pub many_digits : (k m v : ℕ) → m < k → 10 ^ m ≤ v → m < length (dec_digits k v)
many_digits zero m v l h = absurd (omega arith)
many_digits (suc k) zero v l h = some_digits k v
many_digits (suc k) (suc m) v l h =
    let p = pow-suc 10 m in
    let o = one-le-pow m 10 (omega arith) in
    let f = many_digits k m (v / 10) (omega arith) (omega arith) in
    rw (digits_more k v (omega arith), length-append) (omega arith)
