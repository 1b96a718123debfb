-- `decide_registers::ask_register` meets its contract, a law a return.
use Rattle.decide_questions.proofs.ByKeys.{by_keys}
use Rattle.decide_questions.proofs.RowLaws.{register_unread, register_empty, register_filled}
use Rattle.decide_registers.proofs.NumberLaws.{register_none}
use borrow.Author.Rules.{rules}
use Rattle.decide_registers.proofs.ask_register.Statement.{statement}
use Rattle.decide_registers.proofs.ask_register.Tie as tie

pub ask_register_spec : {M : Type 1} → statement M
ask_register_spec =
    tie.close
    (tie.spec
    (λ c κs. search rules)
    (λ c. search rules)
    (λ c. search rules)
    (λ c. search register_unread)
    (λ c. search rules)
    (λ c. search register_none)
    (λ c κs. search rules)
    (λ c. search (register_empty, by_keys))
    (λ c. search (register_filled, by_keys)))
