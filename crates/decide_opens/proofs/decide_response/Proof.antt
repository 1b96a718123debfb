-- `decide_opens::decide_response` meets its contract: each return is the questions so far, in turn.
use Rattle.decide_questions.proofs.Asking.{ask_no, ask_yes}
use borrow.Author.Rules.{rules}
use Rattle.decide_opens.proofs.decide_response.Statement.{statement}
use Rattle.decide_opens.proofs.decide_response.Tie as tie

pub decide_response_spec : {M : Type 1} → statement M
decide_response_spec =
    tie.close
    (tie.spec
    (λ c κs. search rules)
    (λ c. search ask_no)
    (λ c κs. search rules)
    (λ c. search (ask_no, ask_yes))
    (λ c κs. search rules)
    (λ c. search (ask_no, ask_yes))
    (λ c κs. search rules)
    (λ c. search (ask_no, ask_yes))
    (λ c. search ask_yes))
