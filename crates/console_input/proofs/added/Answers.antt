-- A line that is too long stays as it is; else the front of what is added follows the bytes so far.
use Rattle.std.proofs.Common.{rules}
use Rattle.console_input.proofs.InputLaws.{no_more, more}
use Rattle.console_input.proofs.added.Goals as goal

pub returns-then-pending-gt4097 : goal.returns-then-pending-gt4097
returns-then-pending-gt4097 c = search (rules, no_more)

pub returns : goal.returns
returns c = search (rules, more)
