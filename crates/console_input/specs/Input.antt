-- The line that is being read, and the numbers of lines.
use Rattle.std.specs.Prelude.{ℕ, ◌+◌, cond, List, eqb, take}
use Rattle.console_input.specs.declared.Pending.{Pending}

-- the bytes so far
abbrev pub held : Pending → List ℕ
held p = take p.length p.bytes

-- lines count up to the highest number that there is
unfoldable pub next_number : ℕ → ℕ
next_number n = cond (eqb n 18446744073709551615) n (n + 1)
