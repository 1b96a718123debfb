-- `entry_numbers::usable` meets its contract, a law a return.
use Rattle.entry_numbers.proofs.AnswerLaws.{yes_of, no_of}
use borrow.Author.Rules.{rules}
use Rattle.entry_numbers.proofs.usable.Statement.{statement}
use Rattle.entry_numbers.proofs.usable.Tie as tie

pub usable_spec : {M : Type 1} → statement M
usable_spec = tie.close (tie.spec (λ c κs. search rules) (λ c. search yes_of) (λ c. search no_of))
