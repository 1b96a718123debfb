-- Bytes for a buffer that may be too short.
use Rattle.std.specs.Prelude.{ℕ, cond, List, [], leb, length}

-- all of the bytes that are for a buffer of n bytes, or none where it is shorter
abbrev pub that_fit : ℕ → List ℕ → List ℕ
that_fit n bytes = cond (leb (length bytes) n) bytes []
