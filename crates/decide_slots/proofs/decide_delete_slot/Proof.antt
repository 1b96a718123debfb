-- `decide_slots::decide_delete_slot` meets its contract: what was asked is a no or a place.
use Rattle.decide_questions.proofs.Asking.{done}
use Rattle.decide_questions.proofs.RowLaws.{delete_slot_by}
use borrow.Author.Rules.{rules}
use Rattle.decide_slots.proofs.decide_delete_slot.Statement.{statement}
use Rattle.decide_slots.proofs.decide_delete_slot.Tie as tie

pub decide_delete_slot_spec : {M : Type 1} → statement M
decide_delete_slot_spec =
    tie.close
    (tie.spec
    (λ c κs. search rules)
    (λ c. search rules)
    (λ c. search rules)
    (λ c. search (delete_slot_by, done))
    (λ c. search (delete_slot_by, done)))
