-- The order of byte strings, and lists in the order of a test (document 02, N1).
use Rattle.std.specs.Prelude.{ℕ, Bool, true, false, cond, ◌&&◌, ◌||◌, ◌≡◌, eqb, ltb}
use mathlib.Core.List.{List, [], ◌∷◌, Pairwise}

-- ascending byte sequence: the first byte that differs decides, and a string stands before its extensions
abbrev pub is_before : List ℕ → List ℕ → Bool
is_before [] [] = false
is_before [] (y ∷ ys) = true
is_before (x ∷ xs) [] = false
is_before (x ∷ xs) (y ∷ ys) = ltb x y || (eqb x y && is_before xs ys)

-- x among elements that stand in order: after those that are before it
abbrev pub inserted_by : {A : Type 0} → (A → A → Bool) → A → List A → List A
inserted_by before x [] = x ∷ []
inserted_by before x (y ∷ ys) = cond (before y x) (y ∷ inserted_by before x ys) (x ∷ y ∷ ys)

-- the elements in order
abbrev pub sorted_by : {A : Type 0} → (A → A → Bool) → List A → List A
sorted_by before [] = []
sorted_by before (x ∷ xs) = inserted_by before x (sorted_by before xs)

-- each element is before all that follow it
abbrev pub Ascends : {A : Type 0} → (A → A → Bool) → List A → Type 0
Ascends before l = Pairwise (λ x y. before x y ≡ true) l
