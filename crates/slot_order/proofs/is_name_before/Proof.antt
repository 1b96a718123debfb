-- `slot_order::is_name_before` meets its contract.
use borrow.Author.Rules.{rules}
use Rattle.slot_order.proofs.InsertLaws.{named}
use Rattle.slot_order.proofs.is_name_before.Statement.{statement}
use Rattle.slot_order.proofs.is_name_before.Tie as tie

pub is_name_before_spec : {M : Type 1} → statement M
is_name_before_spec =
    tie.close
    (tie.spec
    (λ c. search rules)
    (λ c. search rules)
    (λ c κs. search rules)
    (λ c κs. search rules)
    (λ c. search named))
