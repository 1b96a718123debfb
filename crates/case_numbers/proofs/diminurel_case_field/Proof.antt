-- `case_numbers::diminurel_case_field` meets its contract: the field, where it fits.
use native.Mathlib.Omega.{arith}
use borrow.Author.Rules.{rules}
use Rattle.field_writer.proofs.Lengths.{number_room}
use Rattle.case_numbers.proofs.FittingLaws.{too_short, fits}
use Rattle.case_numbers.proofs.diminurel_case_field.Statement.{statement}
use Rattle.case_numbers.proofs.diminurel_case_field.Tie as tie

pub diminurel_case_field_spec : {M : Type 1} → statement M
diminurel_case_field_spec =
    tie.close
    (tie.spec
    (λ c. search rules)
    (λ c κs. number_room 0 12 c.before.before.args.value 12 (omega arith) (omega arith))
    (λ c. search too_short)
    (λ c κs. search rules)
    (λ c. search rules)
    (λ c. search fits))
