-- `response_requests::respond` meets its contract: a refusal's response, or head, fields and ending.
use Rattle.response_requests.proofs.RespondLaws.{refuse_room, refused_written, still_room, head_long, head_fits, fields_fit, ending_fits, accepted_written, response_fits}
use borrow.Author.Rules.{rules}
use Rattle.response_requests.proofs.respond.Statement.{statement}
use Rattle.response_requests.proofs.respond.Tie as tie

pub respond_spec : {M : Type 1} → statement M
respond_spec =
    tie.close
    (tie.spec
    (λ c. search rules)
    (λ c κs. search refuse_room)
    (λ c. search rules)
    (λ c. (search refused_written, search rules))
    (λ c κs. search rules)
    (λ c κs. (search head_long, search head_fits))
    (λ c κs. (search rules, search still_room, search fields_fit))
    (λ c κs. search ending_fits)
    (λ c. search rules)
    (λ c. (search accepted_written, search response_fits)))
