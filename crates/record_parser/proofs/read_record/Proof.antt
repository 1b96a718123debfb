-- `record_parser::read_record` meets its contract, a law a return.
use Rattle.record_parser.proofs.ParseLaws.{not_framed, unprintable, cut}
use Rattle.record_parser.proofs.FieldLaws.{no_fields, body_fields}
use borrow.Author.Rules.{rules}
use Rattle.record_parser.proofs.read_record.Statement.{statement}
use Rattle.record_parser.proofs.read_record.Tie as tie

pub read_record_spec : {M : Type 1} → statement M
read_record_spec =
    tie.close
    (tie.spec
    (λ c κs. search rules)
    (λ c κs. search rules)
    (λ c. (search not_framed, search no_fields))
    (λ c κs. search rules)
    (λ c κs. search rules)
    (λ c κs. search rules)
    (λ c. (search unprintable, search no_fields))
    (λ c κs. search rules)
    (λ c. (search cut, search body_fields)))
