-- The place after the field that was read says whether another follows it.
use Rattle.field_reader.proofs.LastLaws.{more_after, none_after}
use Rattle.field_reader.proofs.last_field.Goals as goal

pub returns-then-read-s-clause-result_value : goal.returns-then-read-s-clause-result_value
returns-then-read-s-clause-result_value c = more_after c.args.s.now c.args.at c.read_field-read.result.next c.read_field-read.ensures.next c.if-read-s.true

pub returns-clause-result_value : goal.returns-clause-result_value
returns-clause-result_value c =
    none_after c.args.s.now c.args.at c.read_field-read.result.next c.read_field-read.ensures.next c.read_field-read.result.field c.read_field-read.ensures.field_value c.if-read-s.false
