-- `decide_records::is_filled` meets its contract, a law a return.
use Rattle.decide_records.proofs.RegisterLaws.{filled_zero, filled_beyond, filled_row}
use borrow.Author.Rules.{rules}
use Rattle.decide_records.proofs.is_filled.Statement.{statement}
use Rattle.decide_records.proofs.is_filled.Tie as tie

pub is_filled_spec : {M : Type 1} → statement M
is_filled_spec =
    tie.close
    (tie.spec
    (λ c. search filled_zero)
    (λ c. search (filled_beyond, rules))
    (λ c. search rules)
    (λ c. search rules)
    (λ c. search (filled_row, rules)))
