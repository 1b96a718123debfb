-- The header up to its third byte, !, the rest of it, the status.
use Rattle.message_writer.proofs.WriteLaws.{head_written}
use Rattle.message_writer.proofs.put_head.Goals as goal

pub returns-clause-writes : goal.returns-clause-writes
returns-clause-writes c = search head_written
