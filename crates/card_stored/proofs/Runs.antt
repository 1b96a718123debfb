-- A list at the end of a run: what stands before it, and what stands there.
use mathlib.Core.Path.{◌≡◌, refl, ap}
use mathlib.Core.Bool.{Bool, true, false, cond, not, ◌&&◌}
use mathlib.Core.List.{List, [], ◌∷◌, ◌++◌}
use Prim.Native.Nat.{ℕ, zero, suc, ◌+◌, ◌<◌}
use native.Mathlib.Numerals.{add-one}
use native.Mathlib.Omega.{arith}
use lib.Dec.{eqb}
use lib.ListN.{length, take, drop}
use borrow.Author.Tests.{eqb-true}
use Rattle.byte_strings.specs.Strings.{run, is_not, all_of}
use Rattle.byte_strings.proofs.Flags.{and_first, and_second, and_both}

-- every byte of a run passes,
pub run_all : (f : ℕ → Bool) (u : List ℕ) → all_of f (take (run f u) u) ≡ true
run_all f [] = refl
run_all f (b ∷ u) = go (f b) refl (run_all f u)
  where
    go : (t : Bool) → f b ≡ t → all_of f (take (run f u) u) ≡ true → all_of f (take (cond t (suc (run f u)) 0) (b ∷ u)) ≡ true
    go true e more = and_both (f b) (all_of f (take (run f u) u)) e more
    go false e more = refl

-- what follows it starts with none that passes,
pub run_over : (f : ℕ → Bool) (u : List ℕ) → run f (drop (run f u) u) ≡ 0
run_over f [] = refl
run_over f (b ∷ u) = go (f b) refl (run_over f u)
  where
    go : (t : Bool) → f b ≡ t → run f (drop (run f u) u) ≡ 0 → run f (drop (cond t (suc (run f u)) 0) (b ∷ u)) ≡ 0
    go true e more = more
    go false e more = rw e

-- and where it ends within the list, the delimiter stands there
pub parted : (d : ℕ) (s : List ℕ) → run (is_not d) s < length s → s ≡ take (run (is_not d) s) s ++ (d ∷ drop (run (is_not d) s + 1) s)
parted d [] h = absurd (omega arith)
parted d (b ∷ bs) h = go (eqb b d) refl h (parted d bs)
  where
    go : (t : Bool) → eqb b d ≡ t → cond (not t) (suc (run (is_not d) bs)) 0 < suc (length bs)
        → (run (is_not d) bs < length bs → bs ≡ take (run (is_not d) bs) bs ++ (d ∷ drop (run (is_not d) bs + 1) bs))
        → b ∷ bs ≡ take (cond (not t) (suc (run (is_not d) bs)) 0) (b ∷ bs) ++ (d ∷ drop (cond (not t) (suc (run (is_not d) bs)) 0 + 1) (b ∷ bs))
    go true q w more = ap (λ (z : ℕ). z ∷ bs) (eqb-true b d q)
    go false q w more = rw add-one (ap (λ (z : List ℕ). b ∷ z) (rw add-one at (more (omega arith))))

-- a byte that passes where a longer front passes
pub passes_at : (f : ℕ → Bool) (c : List ℕ) (b : ℕ) (u : List ℕ) (m : ℕ) → length c < m → all_of f (take m (c ++ (b ∷ u))) ≡ true → f b ≡ true
passes_at f c b u zero h e = absurd (omega arith)
passes_at f [] b u (suc m) h e = and_first (f b) (all_of f (take m u)) e
passes_at f (x ∷ c) b u (suc m) h e = passes_at f c b u m (omega arith) (and_second (f x) (all_of f (take m (c ++ (b ∷ u)))) e)
