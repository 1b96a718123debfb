-- `decide_loads::decide_store` meets its contract: each return is the questions so far, in turn.
use Rattle.decide_questions.proofs.Asking.{asking}
use Rattle.decide_questions.proofs.ByKeys.{by_keys}
use borrow.Author.Rules.{rules}
use Rattle.decide_loads.proofs.decide_store.Statement.{statement}
use Rattle.decide_loads.proofs.decide_store.Tie as tie

pub decide_store_spec : {M : Type 1} → statement M
decide_store_spec =
    tie.close
    (tie.spec
    (λ c κs. search rules)
    (λ c. search asking)
    (λ c κs. search rules)
    (λ c. search rules)
    (λ c. search rules)
    (λ c. search (asking, by_keys))
    (λ c. search (asking, by_keys)))
