-- Bytes as a number, the first lowest.
use Rattle.std.specs.Prelude.{ℕ, zero, suc, ◌+◌, ◌*◌, List, [], ◌∷◌}

-- the first k bytes, or as many as there are
abbrev pub little_endian : ℕ → List ℕ → ℕ
little_endian zero s = 0
little_endian (suc k) [] = 0
little_endian (suc k) (b ∷ bs) = little_endian k bs * 256 + b
