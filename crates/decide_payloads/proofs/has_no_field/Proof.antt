-- `decide_payloads::has_no_field` meets its contract: there is a field exactly where there is a byte.
use Rattle.decide_payloads.proofs.ReaderLaws.{by_length}
use Rattle.decide_payloads.proofs.has_no_field.Statement.{statement}
use Rattle.decide_payloads.proofs.has_no_field.Tie as tie

pub has_no_field_spec : {M : Type 1} → statement M
has_no_field_spec =
    tie.close
    (tie.spec
    (λ c. search by_length))
