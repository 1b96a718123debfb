-- The loops over lent cards, turn by turn: l is what is looped over, i the turn.
use mathlib.Core.Path.{◌≡◌, refl, sym, ap, ◌∙◌}
use mathlib.Core.Bool.{Bool, true, false, not}
use mathlib.Core.List.{List, [], ◌∷◌, ◌++◌, map}
use Prim.Native.Nat.{ℕ, suc, ◌+◌, ◌≤◌, ◌<◌}
use native.Mathlib.Numerals.{add-one}
use native.Mathlib.Omega.{arith}
use lib.ListN.{length, get_or, take, drop, set}
use lib.Seq.{take-suc, take-suc-set, take_all}
use borrow.Author.Tests.{not-true, not-false}
use Rattle.byte_strings.proofs.Flags.{nope}
use Rattle.row_types.specs.Lists.{every_row}
use Rattle.row_types.proofs.LoopLaws.{list_cons, list_end}

-- every row passes: x is what comes of it all
module _ {A : Type 0} (f : A → Bool) (d : A) (l : List A) (i : ℕ) (x : Bool) (inv : every_row f (drop i l) ≡ x) where
  pub lent_ended : length l ≤ i → true ≡ x
  lent_ended h = rw (list_end l i h) at inv

  module _ (h : i < length l) (t : Bool) (e : t ≡ f (get_or l i d)) where
    pub lent_not : not t ≡ true → false ≡ x
    lent_not o = rw (list_cons d l i h, ← e, not-true t o) at inv

    pub lent_turn : not t ≡ false → every_row f (drop (i + 1) l) ≡ x
    lent_turn o = rw (list_cons d l i h, ← e, not-false t o) at inv

-- numbers told of each, so far
map_append : {A B : Type 0} (f : A → B) (l : List A) (x : A) → map f (l ++ (x ∷ [])) ≡ map f l ++ (f x ∷ [])
map_append f [] x = refl
map_append {A} {B} f (y ∷ ys) x = ap (λ (z : List B). f y ∷ z) (map_append f ys x)

map_map : {A B C : Type 0} (f : B → C) (g : A → B) (l : List A) → map f (map g l) ≡ map (λ (x : A). f (g x)) l
map_map f g [] = refl
map_map {A} {B} {C} f g (x ∷ xs) = ap (λ (z : List C). f (g x) ∷ z) (map_map f g xs)

-- f of the rows that are made of what is looped over
module _ {A B : Type 0} (f : B → ℕ) (row : A → B) (d : A) (l : List A) (k : List ℕ) (i : ℕ) (inv : take i k ≡ map (λ (x : A). f (row x)) (take i l)) where
  pub turn_written : i < length l → i < length k → (v : ℕ) → v ≡ f (row (get_or l i d)) → take (i + 1) (set k i v) ≡ map (λ (x : A). f (row x)) (take (i + 1) l)
  turn_written h z v e =
      let a : take (suc i) (set k i v) ≡ take i k ++ (v ∷ []) = take-suc-set k i v z in
      let c : take (suc i) l ≡ take i l ++ (get_or l i d ∷ []) = take-suc l i d h in
      rw (add-one, a, c, map_append (λ (x : A). f (row x)) (take i l) (get_or l i d), inv, e)

  pub turns_ended : length l ≤ i → i ≤ length l → take (length l) k ≡ map f (map row l)
  turns_ended h g =
      let e : i ≡ length l = omega arith in
      let t : take (length l) k ≡ map (λ (x : A). f (row x)) l = rw (e, take_all (length l) l (omega arith)) at inv in
      t ∙ sym (map_map f row l)

-- of what is not sound no number is told
pub untold : {X : Type 0} (t : Bool) → t ≡ false → t ≡ true → X
untold t o z = nope (cc)

-- what is asked of rows is asked of what they are made of
pub every_row_lem : {A B : Type 0} (f : B → Bool) (row : A → B) (l : List A) → every_row (λ (x : A). f (row x)) l ≡ every_row f (map row l)
every_row_lem f row [] = refl
every_row_lem f row (x ∷ xs) = rw (every_row_lem f row xs)
