-- `decide_registers::decide_get_card` meets its contract: what was asked is a no or a place.
use Rattle.decide_questions.proofs.Asking.{done}
use Rattle.decide_questions.proofs.ByKeys.{by_keys}
use Rattle.decide_questions.proofs.RowLaws.{get_card_by}
use borrow.Author.Rules.{rules}
use Rattle.decide_registers.proofs.decide_get_card.Statement.{statement}
use Rattle.decide_registers.proofs.decide_get_card.Tie as tie

pub decide_get_card_spec : {M : Type 1} → statement M
decide_get_card_spec =
    tie.close
    (tie.spec
    (λ c κs. search rules)
    (λ c. search rules)
    (λ c. search rules)
    (λ c. search (get_card_by, done, by_keys))
    (λ c. search (get_card_by, done, by_keys)))
