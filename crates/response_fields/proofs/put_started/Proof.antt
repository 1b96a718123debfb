-- `response_fields::put_started` meets its contract: the load request is at most the 700 bytes that there are.
use Rattle.response_fields.proofs.FieldsWritten.{two_fields, request_fits, request_short}
use Rattle.row_supplements.proofs.SupplementLaws.{room, front}
use borrow.Author.Rules.{rules}
use Rattle.response_fields.proofs.put_started.Statement.{statement}
use Rattle.response_fields.proofs.put_started.Tie as tie

pub put_started_spec : {M : Type 1} → statement M
put_started_spec =
    tie.close
    (tie.spec
    (λ c κs. search rules)
    (λ c. search (room, rules))
    (λ c. search (front, rules))
    (λ c κs. search (request_fits, rules))
    (λ c. search rules)
    (λ c. (search two_fields, search (request_short, rules))))
