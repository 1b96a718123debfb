-- `slot_names::is_called` meets its contract, a law a return.
use Rattle.slot_names.proofs.NameLaws.{called_nothing, called_longer, called_other, called}
use borrow.Author.Rules.{rules}
use Rattle.slot_names.proofs.is_called.Statement.{statement}
use Rattle.slot_names.proofs.is_called.Tie as tie

pub is_called_spec : {M : Type 1} → statement M
is_called_spec =
    tie.close
    (tie.spec
    (λ c. search called_nothing)
    (λ c. search called_longer)
    (λ c. search rules)
    (λ c. search rules)
    (λ c. search rules)
    (λ c. search called_other)
    (λ c κs. search rules)
    (λ c κs. search rules)
    (λ c. search called))
