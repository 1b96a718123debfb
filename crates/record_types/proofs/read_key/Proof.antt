-- `record_types::read_key` meets its contract.
use borrow.Author.Rules.{rules}
use Rattle.record_types.proofs.read_key.Statement.{statement}
use Rattle.record_types.proofs.read_key.Tie as tie

pub read_key_spec : {M : Type 1} → statement M
read_key_spec = tie.close (tie.spec
    (λ c. search rules)
    (λ c. search rules))
