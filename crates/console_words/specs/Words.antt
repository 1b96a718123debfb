-- Words are split by one space (docs/CONSOLE.md).
use Rattle.std.specs.Prelude.{ℕ, ◌+◌, Bool, List, ltb, length, take, drop}
use Prim.Native.Char.{code}
use Rattle.byte_strings.specs.Strings.{is_not, run}

abbrev pub space : ℕ
space = code " "

-- the first word
unfoldable pub word : List ℕ → List ℕ
word s = take (run (is_not space) s) s

-- what stands after the first space; nothing where there is none
unfoldable pub rest : List ℕ → List ℕ
rest s = drop (run (is_not space) s + 1) s

-- there is a space
unfoldable pub has_rest : List ℕ → Bool
has_rest s = ltb (run (is_not space) s) (length s)
