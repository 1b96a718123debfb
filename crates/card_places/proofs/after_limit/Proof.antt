-- `card_places::after_limit` meets its contract: ULM stands there, or after SGN, or nowhere.
use Rattle.card_places.proofs.Stands.{limit_first, limit_later}
use borrow.Author.Rules.{rules}
use Rattle.card_places.proofs.after_limit.Statement.{statement}
use Rattle.card_places.proofs.after_limit.Tie as tie

pub after_limit_spec : {M : Type 1} → statement M
after_limit_spec =
    tie.close
    (tie.spec
    (λ c κs. search rules)
    (λ c. (search limit_first, search rules))
    (λ c κs. search rules)
    (λ c κs. search rules)
    (λ c. (search limit_later, search rules)))
