-- the digits so far times the power, and the rest, is the number
use Rattle.std.proofs.Common.{◌-◌}
use Rattle.text_decimal_writer.proofs.TurnLaws.{Told}
use Rattle.text_decimal_writer.proofs.put_digits.Given as goal

abbrev pub invariant-loop-p : goal.invariant-loop-p
invariant-loop-p l = Told l.k l.v l.at (l.k - l.p-index) l.fn.dst l.dst l.end l.rest
