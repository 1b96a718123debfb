-- `decide_registers::decide_delete_key` meets its contract: what was asked is a no or a place.
use Rattle.decide_questions.proofs.Asking.{done}
use Rattle.decide_questions.proofs.ByKeys.{by_keys}
use Rattle.decide_questions.proofs.RowLaws.{delete_key_by}
use borrow.Author.Rules.{rules}
use Rattle.decide_registers.proofs.decide_delete_key.Statement.{statement}
use Rattle.decide_registers.proofs.decide_delete_key.Tie as tie

pub decide_delete_key_spec : {M : Type 1} → statement M
decide_delete_key_spec =
    tie.close
    (tie.spec
    (λ c κs. search rules)
    (λ c. search rules)
    (λ c. search rules)
    (λ c. search (delete_key_by, done, by_keys))
    (λ c. search (delete_key_by, done, by_keys)))
