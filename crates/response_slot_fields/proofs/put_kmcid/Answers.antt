-- What stands before the first zero of 40 bytes has 40 at most.
use Rattle.std.proofs.Common.{arith}
use Rattle.std.proofs.lemmas.Grind.{common_steps}
use Rattle.row_types.proofs.ListLaws.{trimmed_short}
use Rattle.response_slot_fields.proofs.put_kmcid.Goals as goal

pub put_string-requires : goal.put_string-requires
put_string-requires c = grind (arith, common_steps, trimmed_short)

pub returns-clause-short : goal.returns-clause-short
returns-clause-short c = grind (arith, common_steps, trimmed_short)
