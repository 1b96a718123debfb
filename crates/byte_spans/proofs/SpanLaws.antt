-- Runs of bytes that pass a test, by parts: a front that passes is gone over, and what stands behind it counts on.
use mathlib.Core.Path.{◌≡◌, refl, sym, ap, ◌∙◌}
use mathlib.Core.Bool.{Bool, true, false, cond, ◌&&◌}
use mathlib.Core.List.{List, [], ◌∷◌, ◌++◌}
use Prim.Native.Nat.{ℕ, zero, suc, ◌+◌, ◌-◌, ◌≤◌, ◌<◌}
use native.Mathlib.Omega.{arith}
use lib.ListN.{length, take, drop, take-append-drop}
use lib.Seq.{length-take-le}
use Rattle.std.specs.List.{prefix_len}
use Rattle.byte_strings.specs.Strings.{is_not, run, all_of}
use Rattle.byte_strings.proofs.StringLaws.{rest, all_run, all_parts, drop_take}

-- count: the run at the front is std's
prefix_run : (f : ℕ → Bool) (s : List ℕ) → prefix_len f s ≡ run f s
prefix_run f [] = refl
prefix_run f (b ∷ bs) = ap (λ n. cond (f b) n 0) (omega (arith, prefix_run f bs))

pub counted : (d : ℕ) (s : List ℕ) (n : ℕ) → n ≡ prefix_len (is_not d) s → n ≡ run (is_not d) s
counted d s n e = e ∙ prefix_run (is_not d) s

-- a front of a front
take_shorter : (i n : ℕ) (s : List ℕ) → i ≤ n → take i (take n s) ≡ take i s
take_shorter zero n s h = refl
take_shorter (suc i) zero s h = absurd (omega arith)
take_shorter (suc i) (suc n) [] h = refl
take_shorter (suc i) (suc n) (b ∷ bs) h = ap (λ (z : List ℕ). b ∷ z) (take_shorter i n bs (omega arith))

-- skip
pub skip_turn : (d : ℕ) (s : List ℕ) (i e : ℕ) → e ≡ i + 16 → all_of (is_not d) (take i s) ≡ true → all_of (is_not d) (take (e - i) (drop i s)) ≡ true → all_of (is_not d) (take e s) ≡ true
skip_turn d s i e p a b =
    let front : all_of (is_not d) (take i (take e s)) ≡ true = rw (take_shorter i e s (omega arith)) a in
    let back : all_of (is_not d) (drop i (take e s)) ≡ true = rw (drop_take i e s) b in
    all_parts (is_not d) i (take e s) front back

-- until
module _ (f : ℕ → Bool) where
  front_run : (n : ℕ) (s : List ℕ) → run f (take n s) < n → run f (take n s) ≡ run f s
  front_run zero s h = absurd (omega arith)
  front_run (suc n) [] h = refl
  front_run (suc n) (b ∷ bs) h = go (f b) h (front_run n bs)
    where
      go : (t : Bool) → cond t (suc (run f (take n bs))) 0 < suc n → (run f (take n bs) < n → run f (take n bs) ≡ run f bs) → cond t (suc (run f (take n bs))) 0 ≡ cond t (suc (run f bs)) 0
      go true l more = ap suc (more (omega arith))
      go false l more = refl

  front_all : (n : ℕ) (s : List ℕ) → n ≤ run f (take n s) → all_of f (take n s) ≡ true
  front_all zero s h = refl
  front_all (suc n) [] h = refl
  front_all (suc n) (b ∷ bs) h = go (f b) h (front_all n bs)
    where
      go : (t : Bool) → suc n ≤ cond t (suc (run f (take n bs))) 0 → (n ≤ run f (take n bs) → all_of f (take n bs) ≡ true) → (t && all_of f (take n bs)) ≡ true
      go true l more = more (omega arith)
      go false l more = absurd (omega arith)

module _ (d : ℕ) (s : List ℕ) (a : ℕ) (e : a ≡ prefix_len (is_not d) (take 16 s)) where
  first : a ≡ run (is_not d) (take 16 s)
  first = counted d (take 16 s) a e

  pub found_early : a < 16 → a ≡ run (is_not d) s
  found_early h = first ∙ front_run (is_not d) 16 s (rw (← first) h)

  pub none_early : 16 ≤ a → all_of (is_not d) (take 16 s) ≡ true
  none_early h = front_all (is_not d) 16 s (rw (← first) h)

-- what is lent behind a place is the rest
pub found_behind : (d : ℕ) (s : List ℕ) (at : ℕ) → all_of (is_not d) (take at s) ≡ true → at ≤ length s → (k : ℕ) → k ≡ prefix_len (is_not d) (take (length s - at) (drop at s)) → at + k ≡ run (is_not d) s
found_behind d s at a h k e =
    let r : run (is_not d) (take at s ++ drop at s) ≡ length (take at s) + run (is_not d) (drop at s) = all_run (is_not d) (take at s) (drop at s) a in
    let w : run (is_not d) s ≡ at + run (is_not d) (drop at s) = rw (take-append-drop at s, length-take-le at s h) at r in
    rw (e, prefix_run, rest s at) (sym w)

pub ruleset until_cases = (found_early, none_early)
