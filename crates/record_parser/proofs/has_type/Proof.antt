-- `record_parser::has_type` meets its contract: the byte behind the type, then the type.
use mathlib.Core.Path.{sym}
use lib.Seq.{length-take-le}
use Rattle.record_parser.proofs.ParseLaws.{other_delimiter, type_compared}
use borrow.Author.Rules.{rules}
use Rattle.record_parser.proofs.has_type.Statement.{statement}
use Rattle.record_parser.proofs.has_type.Tie as tie

pub has_type_spec : {M : Type 1} → statement M
has_type_spec =
    tie.close
    (tie.spec
    (λ c. search rules)
    (λ c. search other_delimiter)
    (λ c. sym (length-take-le _ _ (search rules)))
    (λ c κs. search rules)
    (λ c. search type_compared))
