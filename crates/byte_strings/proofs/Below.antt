-- A rule of every number below a bound, proved by one test that antt computes.
use mathlib.Core.Bool.{Bool, true, ◌&&◌}
use Prim.Native.Nat.{ℕ, zero, suc, ◌<◌, ◌≤◌, zero-le}
use native.Mathlib.Nat.{not-suc-le-zero}
use native.Mathlib.Omega.{arith}
use mathlib.Core.Path.{◌≡◌, refl, sym, ap, subst}
use mathlib.Core.Logic.{◌⊎◌, inl, inr, ⊎_elim}
use lib.Dec.{T}
use Rattle.byte_strings.proofs.Flags.{and_left, and_right}

-- the test passes at each number below n
abbrev pub all_below : (ℕ → Bool) → ℕ → Bool
all_below f zero = true
all_below f (suc n) = f n && all_below f n

last_or : (k n : ℕ) → k < suc n → (k ≡ n) ⊎ (k < n)
last_or zero zero h = inl refl
last_or (suc k) zero h = absurd (omega arith)
last_or zero (suc n) h = inr (omega arith)
last_or (suc k) (suc n) h = ⊎_elim (λ (e : k ≡ n). inl (ap suc e)) (λ (l : k < n). inr (omega arith)) (last_or k n (omega arith))

pub at_below : (f : ℕ → Bool) (n : ℕ) → T (all_below f n) → (k : ℕ) → k < n → T (f k)
at_below f zero t k h = absurd (not-suc-le-zero h)
at_below f (suc n) t k h =
    ⊎_elim (λ (e : k ≡ n). subst (λ (m : ℕ). T (f m)) (sym e) (and_left (f n) (all_below f n) t)) (λ (l : k < n). at_below f n (and_right (f n) (all_below f n) t) k l) (last_or k n h)

-- below, or not
pub below_or : (k n : ℕ) → (k < n) ⊎ (n ≤ k)
below_or k zero = inr zero-le
below_or zero (suc n) = inl (omega arith)
below_or (suc k) (suc n) = ⊎_elim (λ (l : k < n). inl (omega arith)) (λ (l : n ≤ k). inr (omega arith)) (below_or k n)
