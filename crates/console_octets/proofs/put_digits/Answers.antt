-- Nothing is left to write, and each byte had two digits.
use Rattle.std.proofs.Common.{arith}
use Rattle.std.proofs.lemmas.Grind.{common_steps}
use Rattle.std.proofs.Math.ListN.{drop_of_length-le}
use Rattle.console_octets.proofs.OctetLaws.{digits_length}
use Rattle.console_octets.proofs.put_digits.Goals as goal

pub returns-clause-writes : goal.returns-clause-writes
returns-clause-writes c = record { next = grind (arith, digits_length); bytes = grind (arith, common_steps, drop_of_length-le) }
