-- `entry_numbers::answer_rows` meets its contract: cards and marks of the rows are answered, and the rows have them.
use Rattle.entry_numbers.proofs.AnswerLaws.{replies_of}
use borrow.Author.Rules.{rules}
use Rattle.entry_numbers.proofs.answer_rows.Statement.{statement}
use Rattle.entry_numbers.proofs.answer_rows.Tie as tie

returns : tie.Need-returns
returns c = search replies_of

pub answer_rows_spec : {M : Type 1} → statement M
answer_rows_spec =
    tie.close
    (tie.spec
    (λ c κs. search rules)
    (λ c κs. search rules)
    (λ c. search rules)
    (λ c κs. search rules)
    (λ c κs. search rules)
    (λ c. search rules)
    returns)
