-- `decide_records::is_not_expired` meets its contract: the expiry is the third field.
use Rattle.record_parser.proofs.FieldLaws.{field_fits, part_is}
use Rattle.decide_records.proofs.WordLaws.{later_of}
use borrow.Author.Rules.{rules}
use Rattle.decide_records.proofs.is_not_expired.Statement.{statement}
use Rattle.decide_records.proofs.is_not_expired.Tie as tie

pub is_not_expired_spec : {M : Type 1} → statement M
is_not_expired_spec =
    tie.close
    (tie.spec
    (λ c. search rules)
    (λ c κs. search (field_fits, rules))
    (λ c κs. search rules)
    (λ c κs. search rules)
    (λ c κs. search rules)
    (λ c. search (later_of, part_is, rules)))
