-- The first i marks are put into the first lent rows.
use Rattle.std.proofs.Common.{◌≡◌, take}
use Rattle.row_lending.specs.Tables.{each_with, with_mark}
use Rattle.row_lending.proofs.store_marks.Given as goal

abbrev pub invariant-loop-i : goal.invariant-loop-i
invariant-loop-i l = l.registers ≡ each_with with_mark l.initial.registers (take l.i l.mark-items)
