-- A part of a byte string, by its bounds.
use Rattle.std.specs.Prelude.{ℕ, ◌+◌, ◌-◌, ◌≤◌, ◌≡◌, List, length, take, drop}
use Rattle.byte_bounds.specs.declared.Bounds.{Bounds}

-- the bytes within bounds
abbrev pub bytes_in : List ℕ → Bounds → List ℕ
bytes_in s b = take (b.end - b.start) (drop b.start s)

-- the bounds lie within n bytes
abbrev pub FitIn : ℕ → Bounds → Type 0
FitIn n b = (b.start ≤ b.end) × (b.end ≤ n)

-- v stands within the bounds in s
abbrev pub Stands : List ℕ → Bounds → List ℕ → Type 0
Stands s b v = FitIn (length s) b × (bytes_in s b ≡ v)

-- the bounds in the whole of what has the bounds b in the part with the bounds a
abbrev pub inside : Bounds → Bounds → Bounds
inside a b = record { start = a.start + b.start; end = a.start + b.end }

-- the bounds of no byte
abbrev pub nowhere : Bounds
nowhere = record { start = 0; end = 0 }
