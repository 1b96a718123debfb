-- The number of the first that passes a test: the search, turn by turn, and what a number that is found says.
use mathlib.Core.Path.{◌≡◌, refl, sym, ap, ◌∙◌}
use mathlib.Core.Bool.{Bool, true, false, cond, not, ◌||◌}
use mathlib.Core.List.{List, [], ◌∷◌}
use mathlib.Core.Option.{Option, none, some}
use Prim.Native.Nat.{ℕ, ◌+◌, ◌≤◌, ◌<◌}
use native.Mathlib.Omega.{arith}
use lib.Dec.{eqb}
use lib.ListN.{length, get_or, drop}
use borrow.Author.Tests.{ne_eqb}
use Rattle.row_types.specs.Lists.{some_row, first_from}
use Rattle.row_types.proofs.LoopLaws.{list_cons, list_end}
use Rattle.row_index.specs.Found.{or_zero, number_of}

-- the search at i: x is what comes of it all
module _ {A : Type 0} (f : A → Bool) (d : A) (l : List A) (i : ℕ) (x : ℕ) (inv : or_zero (first_from f (i + 1) (drop i l)) ≡ x) where
  pub number_ended : length l ≤ i → 0 ≡ x
  number_ended h = rw (list_end l i h) at inv

  module _ (h : i < length l) (t : Bool) (e : t ≡ f (get_or l i d)) where
    pub number_here : t ≡ true → i + 1 ≡ x
    number_here o = rw (list_cons d l i h, ← e, o) at inv

    pub number_turn : t ≡ false → or_zero (first_from f (i + 1 + 1) (drop (i + 1) l)) ≡ x
    number_turn o = rw (list_cons d l i h, ← e, o) at inv

-- a number is found where some pass
module _ {A : Type 0} (f : A → Bool) where
  some_from : (l : List A) (i : ℕ) → 1 ≤ i → some_row f l ≡ not (eqb (or_zero (first_from f i l)) 0)
  some_from [] i h = refl
  some_from (x ∷ xs) i h = go (f x) (some_from xs (i + 1) (omega arith))
    where
      go : (b : Bool) → some_row f xs ≡ not (eqb (or_zero (first_from f (i + 1) xs)) 0) → (b || some_row f xs) ≡ not (eqb (or_zero (cond b (some i) (first_from f (i + 1) xs))) 0)
      go true q = rw (ne_eqb i 0 (λ z. omega arith)) refl
      go false q = q

  pub some_number : (l : List A) → some_row f l ≡ not (eqb (number_of f l) 0)
  some_number l = some_from l 1 (omega arith)

-- a number is one more than the place
abbrev pub after : Option ℕ → ℕ
after none = 0
after (some k) = k + 1

module _ {A : Type 0} (f : A → Bool) where
  after_from : (l : List A) (i : ℕ) → or_zero (first_from f (i + 1) l) ≡ after (first_from f i l)
  after_from [] i = refl
  after_from (x ∷ xs) i = go (f x) (after_from xs (i + 1))
    where
      go : (b : Bool) → or_zero (first_from f (i + 1 + 1) xs) ≡ after (first_from f (i + 1) xs) → or_zero (cond b (some (i + 1)) (first_from f (i + 1 + 1) xs)) ≡ after (cond b (some i) (first_from f (i + 1) xs))
      go true q = refl
      go false q = q

  pub number_after : (l : List A) → number_of f l ≡ after (first_from f 0 l)
  number_after l = after_from l 0

  pub number_at : (l : List A) (k : ℕ) → first_from f 0 l ≡ some k → number_of f l ≡ k + 1
  number_at l k e = number_after l ∙ ap after e

  -- a number that is found is that of a place
  pub place_at : (l : List A) (k : ℕ) → number_of f l ≡ k + 1 → first_from f 0 l ≡ some k
  place_at l k e = go (first_from f 0 l) refl (sym (number_after l) ∙ e)
    where
      go : (o : Option ℕ) → first_from f 0 l ≡ o → after o ≡ k + 1 → first_from f 0 l ≡ some k
      go none q w = absurd (omega arith)
      go (some j) q w = let z : j ≡ k = omega arith in q ∙ ap (λ (n : ℕ). some n) z

-- no number is above that of the last
module _ {A : Type 0} (f : A → Bool) where
  low_from : (l : List A) (i : ℕ) → or_zero (first_from f (i + 1) l) ≤ i + length l
  low_from [] i = omega arith
  low_from (x ∷ xs) i = go (f x) (low_from xs (i + 1))
    where
      go : (b : Bool) → or_zero (first_from f (i + 1 + 1) xs) ≤ i + 1 + length xs → or_zero (cond b (some (i + 1)) (first_from f (i + 1 + 1) xs)) ≤ i + length (x ∷ xs)
      go true q = omega arith
      go false q = omega (arith, q)

  pub number_low : (l : List A) → number_of f l ≤ length l
  number_low l = let k : number_of f l ≤ 0 + length l = low_from l 0 in omega (arith, k)
