-- `decide_records::has_tvp` meets its contract: the TVP is the third field.
use Rattle.record_parser.proofs.FieldLaws.{field_fits, part_is}
use Rattle.decide_records.proofs.WordLaws.{same_of}
use borrow.Author.Rules.{rules}
use Rattle.decide_records.proofs.has_tvp.Statement.{statement}
use Rattle.decide_records.proofs.has_tvp.Tie as tie

pub has_tvp_spec : {M : Type 1} → statement M
has_tvp_spec =
    tie.close
    (tie.spec
    (λ c. search rules)
    (λ c κs. search (field_fits, rules))
    (λ c κs. search rules)
    (λ c. search (same_of, part_is, rules)))
