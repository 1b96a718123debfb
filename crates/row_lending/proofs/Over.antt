-- A loop that puts cells into rows, place by place.
--     over q p i       the rows q after i turns: the first i cells of p are put into the first of them
--     as_many          there are as many as of q
--     over-all         after as many turns as there are of both it is `each_with`
--     turned           one more turn of a loop that puts them
--     turned_all       and what there is after as many turns as there are of both
--     all_turned       the same of a loop over the first cells alone, as many as there are of both
--     laid             where a row itself is put in the place of each, that is p laid over q
--     laid_as          and where what is made of a row is
-- Assumes nothing.
use mathlib.Core.Path.{◌≡◌, refl, sym, ◌∙◌, ap}
use Prim.Native.Nat.{ℕ, zero, suc, ◌+◌, ◌<◌, ◌≤◌, min}
use native.Mathlib.Nat.{not-suc-le-zero, le_of_suc-le-suc, min-le_left, min-le_right, suc-min-suc, min-zero, zero-min, le_of_lt}
use native.Mathlib.Numerals.{add-one}
use native.Mathlib.Omega.{arith}
use mathlib.Core.List.{List, [], ◌∷◌, map}
use lib.ListN.{length, get_or, take, set, length-set}
use lib.Seq.{take_all}
use Rattle.row_lending.specs.Tables.{overlay, each_with}

module _ {R C : Type 0} (f : R → C → R) (d : R) (e : C) where
  abbrev pub over : List R → List C → ℕ → List R
  over q p zero = q
  over q p (suc i) = set (over q p i) i (f (get_or (over q p i) i d) (get_or p i e))

  pub as_many : (q : List R) (p : List C) (i : ℕ) → length (over q p i) ≡ length q
  as_many q p zero = refl
  as_many q p (suc i) = length-set (over q p i) i (f (get_or (over q p i) i d) (get_or p i e)) ∙ as_many q p i

  one_more : (q : List R) (p : List C) (i : ℕ) → i < length q → i < length p → set (each_with f q (take i p)) i (f (get_or (each_with f q (take i p)) i d) (get_or p i e)) ≡ each_with f q (take (suc i) p)
  one_more [] p i l m = absurd (not-suc-le-zero l)
  one_more (y ∷ q) [] i l m = absurd (not-suc-le-zero m)
  one_more (y ∷ q) (x ∷ p) zero l m = refl
  one_more (y ∷ q) (x ∷ p) (suc i) l m = ap (λ (r : List R). f y x ∷ r) (one_more q p i (le_of_suc-le-suc l) (le_of_suc-le-suc m))

  over_is : (q : List R) (p : List C) (i : ℕ) → i ≤ length q → i ≤ length p → over q p i ≡ each_with f q (take i p)
  over_is q p zero l m = refl
  over_is q p (suc i) l m = ap (λ (r : List R). set r i (f (get_or r i d) (get_or p i e))) (over_is q p i (le_of_lt l) (le_of_lt m)) ∙ one_more q p i l m

  all_put : (q : List R) (p : List C) → each_with f q (take (min (length p) (length q)) p) ≡ each_with f q p
  all_put q [] = ap (λ (k : ℕ). each_with f q (take k [])) (zero-min (length q))
  all_put [] (x ∷ p) = ap (λ (k : ℕ). each_with f [] (take k (x ∷ p))) (min-zero (suc (length p)))
  all_put (y ∷ q) (x ∷ p) = ap (λ (k : ℕ). each_with f (y ∷ q) (take k (x ∷ p))) (suc-min-suc (length p) (length q)) ∙ ap (λ (r : List R). f y x ∷ r) (all_put q p)

  pub over_all : (q : List R) (p : List C) (k : ℕ) → k ≡ min (length p) (length q) → over q p k ≡ each_with f q p
  over_all q p k h = ap (over q p) h ∙ over_is q p (min (length p) (length q)) (min-le_right (length p) (length q)) (min-le_left (length p) (length q)) ∙ all_put q p

  pub turned : (xs q : List R) (p : List C) (i : ℕ) → xs ≡ each_with f q (take i p) → i < length q → i < length p → set xs i (f (get_or xs i d) (get_or p i e)) ≡ each_with f q (take (i + 1) p)
  turned xs q p i h l m =
      ap (λ (r : List R). set r i (f (get_or r i d) (get_or p i e))) h ∙ one_more q p i l m ∙ ap (λ (k : ℕ). each_with f q (take k p)) (sym (add-one i))

  pub turned_all : (xs q : List R) (p : List C) (i n : ℕ) → xs ≡ each_with f q (take i p) → i ≤ n → n ≤ i → n ≡ min (length p) (length q) → xs ≡ each_with f q p
  turned_all xs q p i n h l m k = h ∙ ap (λ (k : ℕ). each_with f q (take k p)) (omega (arith, k)) ∙ all_put q p

pub all_turned : {R C : Type 0} (f : R → C → R) (d : R) (e : C) (xs q : List R) (p : List C) (i n : ℕ) → xs ≡ each_with f q (take i (take n p)) → length (take n p) ≤ i → n ≡ min (length p) (length q) → xs ≡ each_with f q p
all_turned f d e xs q p i n h l few = turned_all f d e xs q p n n (h ∙ ap (each_with f q) (take_all i (take n p) l)) (omega arith) (omega arith) few

pub laid : {X : Type 0} (q p : List X) → each_with (λ _ x. x) q p ≡ overlay p q
laid [] [] = refl
laid (y ∷ q) [] = refl
laid [] (x ∷ p) = refl
laid {X} (y ∷ q) (x ∷ p) = ap (λ (r : List X). x ∷ r) (laid q p)

pub laid_as : {X Y : Type 0} (f : X → Y) (q : List Y) (p : List X) → each_with (λ _ x. f x) q p ≡ overlay (map f p) q
laid_as f [] [] = refl
laid_as f (y ∷ q) [] = refl
laid_as f [] (x ∷ p) = refl
laid_as {X} {Y} f (y ∷ q) (x ∷ p) = ap (λ (r : List Y). f x ∷ r) (laid_as f q p)
