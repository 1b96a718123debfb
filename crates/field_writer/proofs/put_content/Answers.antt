-- Type, content, end.
use Rattle.field_writer.proofs.WriteLaws.{content_written}
use Rattle.field_writer.proofs.put_content.Goals as goal

pub returns-clause-writes : goal.returns-clause-writes
returns-clause-writes c = search content_written
