-- The field, then the delimiter.
use Rattle.record_writer.proofs.BuildLaws.{field_written}
use Rattle.record_writer.proofs.put_field.Goals as goal

pub returns-clause-writes : goal.returns-clause-writes
returns-clause-writes c = search field_written
