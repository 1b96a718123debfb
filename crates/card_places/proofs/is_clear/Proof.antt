-- `card_places::is_clear` meets its contract, a law a return.
use Rattle.card_places.proofs.Stands.{clear_cases}
use borrow.Author.Rules.{rules}
use Rattle.card_places.proofs.is_clear.Statement.{statement}
use Rattle.card_places.proofs.is_clear.Tie as tie

pub is_clear_spec : {M : Type 1} → statement M
is_clear_spec =
    tie.close
    (tie.spec
    (λ c. search clear_cases)
    (λ c. search clear_cases)
    (λ c. search rules)
    (λ c. search rules)
    (λ c. search rules)
    (λ c κs. search rules)
    (λ c. search clear_cases))
