-- The rows so far stand in their places.
use Rattle.std.proofs.Common.{◌≡◌, take, length}
use Rattle.row_index.specs.Lent.{marked_rows}
use Rattle.register_tables.proofs.rows_of.Given as goal

abbrev pub invariant-loop-i : goal.invariant-loop-i
invariant-loop-i l = record { rows : take l.i l.registers ≡ take l.i (marked_rows l.fn.cards l.fn.marks); places : length l.registers ≡ 32 }
