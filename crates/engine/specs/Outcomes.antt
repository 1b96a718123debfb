-- What an outcome says to the caller (document 01, Slots and registers, Questions in order): its number, and the slot
-- state that a session command leaves.
use Rattle.std.specs.Prelude.{ℕ}
use Rattle.std.proofs.Math.Option.{Option, none, some}
use Rattle.row_types.specs.Slots.{state_number}
use Rattle.engine.specs.Refusals.{refusal}
use Rattle.engine.specs.declared.Outcome.{Outcome}
use Rattle.engine.specs.declared.Outcome.TheVariants.{Accepted, Done, Refused}

-- 0 where the request is accepted, else the refusal's number
abbrev pub outcome_number : Outcome → ℕ
outcome_number (Accepted a) = 0
outcome_number Done = 0
outcome_number (Refused r) = (refusal r).number

-- the number of the slot state that an accepted session command leaves
abbrev pub leaves : Outcome → Option ℕ
leaves (Accepted a) = some (state_number a)
leaves Done = none
leaves (Refused r) = none
