-- Lists of rows of any kind.
use Rattle.std.specs.Prelude.{Bool, cond, List, [], ◌∷◌}

-- the rows that pass a test, in their sequence
abbrev pub rows_that : {A : Type 0} → (A → Bool) → List A → List A
rows_that f [] = []
rows_that f (x ∷ xs) = cond (f x) (x ∷ rows_that f xs) (rows_that f xs)
