-- Lists of rows, of any length and any kind of row.
use Rattle.std.specs.Prelude.{ℕ, ◌+◌, Bool, true, false, cond, not, ◌&&◌, ◌||◌, List, [], ◌∷◌, ◌++◌}
use Rattle.std.specs.Prelude.{map, take, drop, replicate}
use Rattle.std.proofs.Math.Option.{Option, none, some}
use Rattle.byte_strings.specs.Strings.{is_not, run}

-- every row passes a test
abbrev pub every_row : {A : Type 0} → (A → Bool) → List A → Bool
every_row f [] = true
every_row f (x ∷ xs) = f x && every_row f xs

-- some row passes a test
abbrev pub some_row : {A : Type 0} → (A → Bool) → List A → Bool
some_row f [] = false
some_row f (x ∷ xs) = f x || some_row f xs

-- no row is alike to a later one
abbrev pub distinct_rows : {A : Type 0} → (A → A → Bool) → List A → Bool
distinct_rows alike [] = true
distinct_rows alike (x ∷ xs) = not (some_row (alike x) xs) && distinct_rows alike xs

-- the place of the first row that passes a test, counted from i
abbrev pub first_from : {A : Type 0} → (A → Bool) → ℕ → List A → Option ℕ
first_from f i [] = none
first_from f i (x ∷ xs) = cond (f x) (some i) (first_from f (i + 1) xs)

-- bytes in n bytes of space, zero after their end; what does not fit is left out
unfoldable pub padded : ℕ → List ℕ → List ℕ
padded n s = take n (s ++ replicate n 0)

-- what stands before the first zero
unfoldable pub trimmed : List ℕ → List ℕ
trimmed s = take (run (is_not 0) s) s

-- the first n rows changed, each by f; the places beyond them as they were
abbrev pub mapped : {A : Type 0} → ℕ → (A → A) → List A → List A
mapped n f l = map f (take n l) ++ drop n l

-- the numbers of the rows that pass a test, the first row having the number i
abbrev pub numbers_from : {A : Type 0} → (A → Bool) → ℕ → List A → List ℕ
numbers_from f i [] = []
numbers_from f i (x ∷ xs) = cond (f x) (i ∷ numbers_from f (i + 1) xs) (numbers_from f (i + 1) xs)

-- what f gives for each row, one after the other, the first row having the place i
abbrev pub in_turn : {A B : Type 0} → (ℕ → A → List B) → ℕ → List A → List B
in_turn f i [] = []
in_turn f i (x ∷ xs) = f i x ++ in_turn f (i + 1) xs
