-- `decide_slots::decide_list_slots` meets its contract.
use Rattle.decide_questions.proofs.RowLaws.{list_slots_by}
use borrow.Author.Rules.{rules}
use Rattle.decide_slots.proofs.decide_list_slots.Statement.{statement}
use Rattle.decide_slots.proofs.decide_list_slots.Tie as tie

pub decide_list_slots_spec : {M : Type 1} → statement M
decide_list_slots_spec =
    tie.close
    (tie.spec
    (λ c κs. search rules)
    (λ c. search list_slots_by))
