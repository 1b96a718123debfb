-- A line that the console prints (docs/CONSOLE.md).
use Rattle.std.specs.Prelude.{ℕ, List, [], ◌∷◌, ◌++◌}
use Rattle.byte_strings.specs.Texts.{text}

-- words split by one space, and a line feed
unfoldable pub line_bytes : List (List ℕ) → List ℕ
line_bytes [] = []
line_bytes (w ∷ []) = w ++ text "\n"
line_bytes (w ∷ v ∷ ws) = w ++ (text " " ++ line_bytes (v ∷ ws))
