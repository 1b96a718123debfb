-- What is left of the fields is what is left to write.
use Rattle.std.proofs.Common.{map}
use Rattle.record_writer.proofs.BuildLaws.{Left}
use Rattle.record_writer.proofs.put_fields.Given as goal

abbrev pub invariant-loop-field : goal.invariant-loop-field
invariant-loop-field l = Left l.delimiter (map (λ f. f.now) l.fields) l.initial.dst l.initial.at l.dst l.at l.field-index
