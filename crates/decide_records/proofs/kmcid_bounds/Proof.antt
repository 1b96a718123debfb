-- `decide_records::kmcid_bounds` meets its contract.
use borrow.Author.Rules.{rules}
use Rattle.decide_records.proofs.kmcid_bounds.Statement.{statement}
use Rattle.decide_records.proofs.kmcid_bounds.Tie as tie

pub kmcid_bounds_spec : {M : Type 1} → statement M
kmcid_bounds_spec = tie.close (tie.spec (λ c κs. search rules) (λ c. search rules))
