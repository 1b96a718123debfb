-- The marks of the first i lent rows stand in the first places.
use Rattle.std.proofs.Common.{◌≡◌, take}
use Rattle.row_lending.specs.Tables.{each_with}
use Rattle.row_lending.proofs.load_marks.Given as goal

abbrev pub invariant-loop-i : goal.invariant-loop-i
invariant-loop-i l = l.marks ≡ each_with (λ _ r. r.mark) l.initial.marks (take l.i l.row-items)
