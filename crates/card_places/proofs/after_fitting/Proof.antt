-- `card_places::after_fitting` meets its contract, a law a return.
use Rattle.card_places.proofs.Fitting.{fitting_cases}
use borrow.Author.Rules.{rules}
use Rattle.card_places.proofs.after_fitting.Statement.{statement}
use Rattle.card_places.proofs.after_fitting.Tie as tie

pub after_fitting_spec : {M : Type 1} → statement M
after_fitting_spec =
    tie.close
    (tie.spec
    (λ c. search rules)
    (λ c. search rules)
    (λ c. (search fitting_cases, search rules))
    (λ c κs. search rules)
    (λ c. search rules)
    (λ c. (search fitting_cases, search rules))
    (λ c. search rules)
    (λ c. (search fitting_cases, search rules)))
