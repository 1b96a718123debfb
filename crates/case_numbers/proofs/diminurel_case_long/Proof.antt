-- `case_numbers::diminurel_case_long` meets its contract: the digits, where they fit.
use native.Mathlib.Omega.{arith}
use borrow.Author.Rules.{rules}
use Rattle.text_decimal_writer.proofs.RoundTrip.{long_room}
use Rattle.case_numbers.proofs.FittingLaws.{too_short, fits}
use Rattle.case_numbers.proofs.diminurel_case_long.Statement.{statement}
use Rattle.case_numbers.proofs.diminurel_case_long.Tie as tie

pub diminurel_case_long_spec : {M : Type 1} → statement M
diminurel_case_long_spec =
    tie.close
    (tie.spec
    (λ c. search rules)
    (λ c κs. long_room 0 20 c.before.before.args.value 20 (omega arith) (omega arith))
    (λ c. search too_short)
    (λ c κs. search rules)
    (λ c. search rules)
    (λ c. search fits))
