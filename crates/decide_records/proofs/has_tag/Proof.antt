-- `decide_records::has_tag` meets its contract: the tag is the fourth field.
use Rattle.record_parser.proofs.FieldLaws.{field_fits, part_is}
use Rattle.decide_records.proofs.WordLaws.{same_of}
use borrow.Author.Rules.{rules}
use Rattle.decide_records.proofs.has_tag.Statement.{statement}
use Rattle.decide_records.proofs.has_tag.Tie as tie

pub has_tag_spec : {M : Type 1} → statement M
has_tag_spec =
    tie.close
    (tie.spec
    (λ c. search rules)
    (λ c κs. search (field_fits, rules))
    (λ c κs. search rules)
    (λ c. search (same_of, part_is, rules)))
