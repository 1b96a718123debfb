-- A turn writes the first of the fields that are left.
use Rattle.std.proofs.Common.{rules}
use Rattle.record_writer.proofs.BuildLaws.{left_room, left_turn}
use Rattle.record_writer.proofs.put_fields.Goals as goal

pub put_field-at-requires : goal.put_field-at-requires
put_field-at-requires c = left_room _ _ _ _ _ _ _ _ c.loop-field.invariant (search rules) _ (search rules)

pub loop-field-preserved : goal.loop-field-preserved
loop-field-preserved c = search (rules, left_turn)
