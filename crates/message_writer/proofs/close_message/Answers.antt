-- Checksum, then carriage return.
use Rattle.message_writer.proofs.WriteLaws.{message_closed}
use Rattle.message_writer.proofs.close_message.Goals as goal

pub returns-clause-writes : goal.returns-clause-writes
returns-clause-writes c = search message_closed
