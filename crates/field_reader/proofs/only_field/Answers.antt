-- The field at the first place that no other follows is the only one.
use Rattle.std.proofs.Common.{◌∙◌}
use Rattle.field_reader.proofs.LastLaws.{only_last}
use Rattle.field_reader.proofs.only_field.Goals as goal

pub returns-clause-result_value : goal.returns-clause-result_value
returns-clause-result_value c = simp (c.new.ensures) at c.last.ensures.result_value ∙ only_last c.args.payload.now
