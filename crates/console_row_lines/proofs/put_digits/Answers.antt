-- The digits, and the byte where they end.
use Rattle.byte_strings.proofs.Writes.{then}
use Rattle.console_row_lines.proofs.put_digits.Goals as goal

pub returns-clause-writes : goal.returns-clause-writes
returns-clause-writes c = search then
