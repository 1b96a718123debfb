-- What is said in numbers: the slot state that an answer carries, as a byte, and a yes or no.
use Rattle.std.specs.Prelude.{ℕ, Bool, cond}
use Rattle.std.proofs.Math.Option.{Option, none, some}
use Rattle.engine.specs.Outcomes.{leaves}
use Rattle.engine.specs.declared.Outcome.{Outcome}

abbrev or_none : Option ℕ → ℕ
or_none (some n) = n
or_none none = 255

-- the state's number, or 255 where an answer carries none
abbrev pub state_byte : Outcome → ℕ
state_byte o = or_none (leaves o)

-- 1 for a yes, 0 for a no
abbrev pub yes_byte : Bool → ℕ
yes_byte b = cond b 1 0
