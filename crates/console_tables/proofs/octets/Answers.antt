-- What is read of the front of the digits fits, and stands over zeros.
use Rattle.std.proofs.Common.{rules}
use Rattle.console_tables.proofs.RowLaws.{in_space}
use Rattle.console_tables.proofs.octets.Goals as goal

pub returns : goal.returns
returns g c = search (rules, in_space)
