-- The type, the fields, then the check value of them all.
use Rattle.std.proofs.Common.{rules}
use Rattle.record_writer.proofs.BuildLaws.{type_room, fields_room, sum_room, record_written, record_short}
use Rattle.record_writer.proofs.put_record.Goals as goal

pub put_field-o-requires : goal.put_field-o-requires
put_field-o-requires c = search (rules, type_room)

pub put_fields-to-requires : goal.put_fields-to-requires
put_fields-to-requires c = search (rules, fields_room)

pub close_record-requires : goal.close_record-requires
close_record-requires c = search (rules, sum_room)

pub returns-clause-writes : goal.returns-clause-writes
returns-clause-writes c = search (rules, record_written)

pub returns-clause-short : goal.returns-clause-short
returns-clause-short c = record_short _ _ _ _ _ _ _ c.requires (returns-clause-writes c)
