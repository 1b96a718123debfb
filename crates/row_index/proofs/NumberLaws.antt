-- The numbers of the rows that pass a test are known by the answers alone.
use mathlib.Core.Path.{◌≡◌, refl, sym, ap, ◌∙◌}
use mathlib.Core.Bool.{Bool}
use mathlib.Core.List.{List, [], ◌∷◌, map}
use Prim.Native.Nat.{ℕ, ◌+◌}
use Rattle.row_types.specs.Lists.{numbers_from}

abbrev numbers_of : ℕ → List Bool → List ℕ
numbers_of i l = numbers_from (λ (b : Bool). b) i l

by_answers : {A : Type 0} (f : A → Bool) (i : ℕ) (l : List A) → numbers_from f i l ≡ numbers_of i (map f l)
by_answers f i [] = refl
by_answers f i (x ∷ xs) = rw (by_answers f (i + 1) xs)

pub same_numbers : {A B : Type 0} (f : A → Bool) (g : B → Bool) (i : ℕ) (l : List A) (m : List B) → map f l ≡ map g m → numbers_from f i l ≡ numbers_from g i m
same_numbers f g i l m e = by_answers f i l ∙ ap (numbers_of i) e ∙ sym (by_answers g i m)
