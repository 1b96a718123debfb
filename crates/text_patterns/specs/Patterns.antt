-- Patterns: bytes that tell which bytes may stand in a text.
use Rattle.std.specs.Prelude.{ℕ, Bool, true, false, ◌&&◌, ◌||◌, List, [], ◌∷◌, eqb, leb}
use Rattle.text_classes.specs.Classes.{within, is_of}
use Rattle.text_classes.specs.declared.Class.TheVariants.{Hexadecimal}

-- the byte b fits the byte p of a pattern: a digit (48 to 57) stands for itself and the smaller ones, F (70) for
-- every hexadecimal digit, any other byte for itself
unfoldable pub fits_byte : ℕ → ℕ → Bool
fits_byte p b = eqb p b || ((leb p 57 && within b 48 p) || (eqb p 70 && is_of Hexadecimal b))

-- s starts with bytes that fit those of the pattern, one by one
abbrev pub fits : List ℕ → List ℕ → Bool
fits [] s = true
fits (p ∷ ps) [] = false
fits (p ∷ ps) (b ∷ bs) = fits_byte p b && fits ps bs
