-- `response_requests::outcome` meets its contract, an arm at a time.
use Rattle.response_requests.proofs.RespondLaws.{outcome_arm, done_arm}
use borrow.Author.Rules.{rules}
use Rattle.response_requests.proofs.outcome.Statement.{statement}
use Rattle.response_requests.proofs.outcome.Tie as tie

pub outcome_spec : {M : Type 1} → statement M
outcome_spec =
    tie.close
    (tie.spec
    (λ c. search rules)
    (λ c. search rules)
    (λ c. search rules)
    (λ c. search rules)
    (λ c. search rules)
    (λ c. search rules)
    (λ c. search outcome_arm)
    (λ c. search outcome_arm)
    (λ c. search outcome_arm)
    (λ c. search outcome_arm)
    (λ c. search outcome_arm)
    (λ c. search outcome_arm)
    (λ c. search done_arm))
