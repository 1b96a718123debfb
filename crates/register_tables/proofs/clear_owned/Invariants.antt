-- The places so far are cleared where their owner is the slot.
use Rattle.std.proofs.Common.{◌≡◌, take}
use Rattle.register_tables.specs.Freed.{cleared}
use Rattle.register_tables.proofs.clear_owned.Given as goal

abbrev pub invariant-loop-i : goal.invariant-loop-i
invariant-loop-i g l = l.cells ≡ cleared l.clear l.slot (take l.i l.owners) l.initial.cells
