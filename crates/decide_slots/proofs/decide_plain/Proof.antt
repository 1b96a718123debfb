-- `decide_slots::decide_plain` meets its contract, a law a return.
use Rattle.decide_questions.proofs.Asking.{asking}
use borrow.Author.Rules.{rules}
use Rattle.decide_slots.proofs.decide_plain.Statement.{statement}
use Rattle.decide_slots.proofs.decide_plain.Tie as tie

pub decide_plain_spec : {M : Type 1} → statement M
decide_plain_spec =
    tie.close
    (tie.spec
    (λ c κs. search rules)
    (λ c. search asking)
    (λ c. search asking))
