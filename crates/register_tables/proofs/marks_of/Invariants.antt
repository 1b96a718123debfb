-- The marks so far stand in their places.
use Rattle.std.proofs.Common.{◌≡◌, map, take, length}
use Rattle.row_index.specs.Lent.{mark_in}
use Rattle.register_tables.proofs.marks_of.Given as goal

abbrev pub invariant-loop-i : goal.invariant-loop-i
invariant-loop-i l = record { marks : take l.i l.marks ≡ map mark_in (take l.i l.row-items); places : length l.marks ≡ 32 }
