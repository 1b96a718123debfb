-- `decide_records::has_fingerprint` meets its contract: the fingerprint is the fourth field of the identity that is the first.
use Rattle.record_parser.proofs.FieldLaws.{field_fits, part_is, inner_is}
use Rattle.decide_records.proofs.WordLaws.{inner_fits, same_of}
use borrow.Author.Rules.{rules}
use Rattle.decide_records.proofs.has_fingerprint.Statement.{statement}
use Rattle.decide_records.proofs.has_fingerprint.Tie as tie

pub has_fingerprint_spec : {M : Type 1} → statement M
has_fingerprint_spec =
    tie.close
    (tie.spec
    (λ c. search rules)
    (λ c κs. search (field_fits, rules))
    (λ c. search rules)
    (λ c κs. search (inner_fits, part_is, rules))
    (λ c κs. search rules)
    (λ c. search (same_of, inner_is, rules)))
