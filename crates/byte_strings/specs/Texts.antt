-- Texts as the papers print them, and tests that are asked one after the other.
use Rattle.std.specs.Prelude.{ℕ, Bool, true, ◌&&◌, List, [], ◌∷◌}
use Prim.Native.Char.{code}
use Prim.Native.String.{String, [] as ε, ◌∷◌ as ◌∷ᶜ◌}

-- the bytes of a text
abbrev pub text : String → List ℕ
text ε = []
text (c ∷ᶜ s) = code c ∷ text s

-- every test of a list is a yes
abbrev pub all : List Bool → Bool
all [] = true
all (b ∷ []) = b
all (b ∷ c ∷ bs) = b && all (c ∷ bs)
