-- The room that the response to a refusal takes (document 01, Questions in order).
use Rattle.std.specs.Prelude.{ℕ, ◌≤◌}
use Rattle.std.proofs.Math.Option.{Option, none, some}
use Rattle.engine.specs.Refusals.{Header, general, own}

-- a refused request of n bytes can be answered in room bytes
abbrev pub CanRefuse : Option Header → ℕ → ℕ → Type 0
CanRefuse none n room = Unit
CanRefuse (some general) n room = 1024 ≤ room
CanRefuse (some own) n room = (10 ≤ n) × (1024 ≤ room)
