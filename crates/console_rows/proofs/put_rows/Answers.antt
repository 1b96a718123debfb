-- The slots, then the registers.
use Rattle.byte_strings.proofs.Writes.{then}
use Rattle.console_rows.specs.Rows.{row_lines}
use Rattle.console_rows.proofs.put_rows.Goals as goal

pub returns-clause-writes : goal.returns-clause-writes
unfolding row_lines
returns-clause-writes c = search then
