-- What remains to be written is what is told of the rows that are left.
use Rattle.std.proofs.Common.{◌+◌, ◌*◌, ◌≤◌, drop}
use Rattle.row_types.specs.Lists.{in_turn}
use Rattle.row_types.proofs.WriteLoops.{Remains}
use Rattle.console_prints.proofs.put_each.Given as goal

abbrev pub invariant-loop-i : goal.invariant-loop-i
invariant-loop-i g l =
    (l.end ≤ l.at + l.room * l.i)
    × Remains l.fn.dst l.at (in_turn g.tell 0 l.rows) l.dst l.end (in_turn g.tell l.i (drop l.i l.rows))
