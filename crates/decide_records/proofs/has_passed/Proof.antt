-- `decide_records::has_passed` meets its contract.
use borrow.Author.Rules.{rules}
use Rattle.decide_records.proofs.has_passed.Statement.{statement}
use Rattle.decide_records.proofs.has_passed.Tie as tie

pub has_passed_spec : {M : Type 1} → statement M
has_passed_spec = tie.close (tie.spec (λ c. search rules))
