-- The names of the slot states that the console prints (docs/CONSOLE.md).
use Rattle.std.specs.Prelude.{ℕ, List, [], ◌∷◌, get_or}
use Rattle.byte_strings.specs.Texts.{text}

-- the names of the numbers 0 to 3
abbrev pub names : List (List ℕ)
names = text "FREE" ∷ text "PENDING" ∷ text "LOADING" ∷ text "IDLE" ∷ []

-- the name of a state's number, or `other` for the number of no state
unfoldable pub state_name : List ℕ → ℕ → List ℕ
state_name other n = get_or names n other
