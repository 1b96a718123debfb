-- `decide_records::fingerprint_bounds` meets its contract.
use borrow.Author.Rules.{rules}
use Rattle.decide_records.proofs.fingerprint_bounds.Statement.{statement}
use Rattle.decide_records.proofs.fingerprint_bounds.Tie as tie

pub fingerprint_bounds_spec : {M : Type 1} → statement M
fingerprint_bounds_spec = tie.close (tie.spec (λ c κs. search rules) (λ c. search rules))
