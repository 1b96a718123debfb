-- `card_places::after_revision` meets its contract, a law a return.
use Rattle.card_places.proofs.Fitting.{revision_cases, revision_index}
use borrow.Author.Rules.{rules}
use Rattle.card_places.proofs.after_revision.Statement.{statement}
use Rattle.card_places.proofs.after_revision.Tie as tie

pub after_revision_spec : {M : Type 1} → statement M
after_revision_spec =
    tie.close
    (tie.spec
    (λ c. search rules)
    (λ c. search rules)
    (λ c. (search revision_cases, search rules))
    (λ c. search rules)
    (λ c. search revision_index)
    (λ c. search rules)
    (λ c. (search revision_cases, search rules))
    (λ c. (search revision_cases, search rules)))
