-- The counts, the slots, then the registers.
use Rattle.byte_strings.proofs.Writes.{then}
use Rattle.console_show.specs.Shown.{shown_rows}
use Rattle.console_show.proofs.put_show.Goals as goal

pub returns-clause-writes : goal.returns-clause-writes
unfolding shown_rows
returns-clause-writes c = search then
