-- `card_places::after_first` meets its contract, a law a return.
use Rattle.card_places.proofs.Fitting.{first_cases}
use borrow.Author.Rules.{rules}
use Rattle.card_places.proofs.after_first.Statement.{statement}
use Rattle.card_places.proofs.after_first.Tie as tie

pub after_first_spec : {M : Type 1} → statement M
after_first_spec =
    tie.close
    (tie.spec
    (λ c. search rules)
    (λ c. (search first_cases, search rules))
    (λ c. search rules)
    (λ c. search rules)
    (λ c. (search first_cases, search rules))
    (λ c. search rules)
    (λ c. search rules)
    (λ c. search rules)
    (λ c κs. search rules)
    (λ c. search rules)
    (λ c. (search first_cases, search rules))
    (λ c. search rules)
    (λ c. search rules)
    (λ c. search rules)
    (λ c κs. search rules)
    (λ c. search rules)
    (λ c. (search first_cases, search rules))
    (λ c. search rules)
    (λ c. search rules)
    (λ c. search rules)
    (λ c κs. search rules)
    (λ c. search rules)
    (λ c. (search first_cases, search rules))
    (λ c. search rules)
    (λ c. search rules)
    (λ c. search rules)
    (λ c κs. search rules)
    (λ c. search rules)
    (λ c. (search first_cases, search rules))
    (λ c. (search first_cases, search rules)))
