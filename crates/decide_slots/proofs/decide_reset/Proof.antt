-- `decide_slots::decide_reset` meets its contract.
use Rattle.decide_questions.proofs.RowLaws.{reset_by}
use borrow.Author.Rules.{rules}
use Rattle.decide_slots.proofs.decide_reset.Statement.{statement}
use Rattle.decide_slots.proofs.decide_reset.Tie as tie

pub decide_reset_spec : {M : Type 1} → statement M
decide_reset_spec =
    tie.close
    (tie.spec
    (λ c κs. search rules)
    (λ c. search reset_by))
