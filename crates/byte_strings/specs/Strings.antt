-- Byte strings: compared, tested byte by byte, and the length of what stands at the front.
use Rattle.std.specs.Prelude.{ℕ, suc, Bool, true, false, cond, not, ◌&&◌, List, [], ◌∷◌, eqb}

-- the same bytes, and as many
abbrev pub same_bytes : List ℕ → List ℕ → Bool
same_bytes [] [] = true
same_bytes [] (y ∷ ys) = false
same_bytes (x ∷ xs) [] = false
same_bytes (x ∷ xs) (y ∷ ys) = eqb x y && same_bytes xs ys

-- every byte passes the test
abbrev pub all_of : (ℕ → Bool) → List ℕ → Bool
all_of f [] = true
all_of f (b ∷ bs) = f b && all_of f bs

-- how many bytes at the front pass the test
abbrev pub run : (ℕ → Bool) → List ℕ → ℕ
run f [] = 0
run f (b ∷ bs) = cond (f b) (suc (run f bs)) 0

-- a byte other than the delimiter
abbrev pub is_not : ℕ → ℕ → Bool
is_not delimiter b = not (eqb b delimiter)
