-- `card_steps::is_number` meets its contract, a law a return.
use Rattle.text_decimals.proofs.NumberLaws.{none, many}
use Rattle.card_steps.proofs.Numbers.{zero_first, in_range}
use borrow.Author.Rules.{rules}
use Rattle.card_steps.proofs.is_number.Statement.{statement}
use Rattle.card_steps.proofs.is_number.Tie as tie

pub is_number_spec : {M : Type 1} → statement M
is_number_spec =
    tie.close
    (tie.spec
    (λ c. search none)
    (λ c. search many)
    (λ c. search rules)
    (λ c. search zero_first)
    (λ c κs. search rules)
    (λ c. search in_range))
