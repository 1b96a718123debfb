-- A word, and the byte where it ends.
use Rattle.byte_strings.proofs.Writes.{then}
use Rattle.console_prints.proofs.put_ended.Goals as goal

pub returns-clause-writes : goal.returns-clause-writes
returns-clause-writes c = search then
