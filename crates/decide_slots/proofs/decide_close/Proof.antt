-- `decide_slots::decide_close` meets its contract: what was asked is a no or a place, and of the row there one question is left.
use Rattle.decide_questions.proofs.Asking.{asking}
use Rattle.decide_questions.proofs.RowLaws.{slot_in_lem, slot_fits, close_refused, close_by}
use borrow.Author.Rules.{rules}
use Rattle.decide_slots.proofs.decide_close.Statement.{statement}
use Rattle.decide_slots.proofs.decide_close.Tie as tie

pub decide_close_spec : {M : Type 1} → statement M
decide_close_spec =
    tie.close
    (tie.spec
    (λ c κs. search rules)
    (λ c. search rules)
    (λ c. search rules)
    (λ c. search slot_fits)
    (λ c. search slot_in_lem)
    (λ c κs. search rules)
    (λ c. search (close_by, asking))
    (λ c. search close_refused)
    (λ c. search (close_by, asking)))
