-- The table of the powers of ten (document 02, N4).
use Rattle.std.specs.Prelude.{ℕ, ◌*◌, Bool, false, ◌&&◌, List, [], ◌∷◌, eqb}

-- each is ten times the next, and the last is 1
unfoldable pub are_tens : List ℕ → Bool
are_tens [] = false
are_tens (p ∷ []) = eqb p 1
are_tens (p ∷ q ∷ ps) = eqb p (10 * q) && are_tens (q ∷ ps)
