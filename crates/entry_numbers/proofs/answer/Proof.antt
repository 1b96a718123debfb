-- `entry_numbers::answer` meets its contract: the core's answer, in numbers.
use Rattle.entry_numbers.proofs.AnswerLaws.{number_of, byte_of}
use borrow.Author.Rules.{rules}
use Rattle.entry_numbers.proofs.answer.Statement.{statement}
use Rattle.entry_numbers.proofs.answer.Tie as tie

pub answer_spec : {M : Type 1} → statement M
answer_spec =
    tie.close
    (tie.spec
    (λ c κs. search rules)
    (λ c κs. search rules)
    (λ c κs. search rules)
    (λ c. search rules)
    (λ c. search rules)
    (λ c. record { outcome_is = search number_of; state_is = search byte_of; written = search rules; fits = search rules; tables_are = search rules }))
