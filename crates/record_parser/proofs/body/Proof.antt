-- `record_parser::body` meets its contract: the part before the last four bytes.
use mathlib.Core.Path.{sym}
use lib.Seq.{length-take-le}
use Rattle.record_parser.proofs.ParseLaws.{no_body, a_body}
use borrow.Author.Rules.{rules}
use Rattle.record_parser.proofs.body.Statement.{statement}
use Rattle.record_parser.proofs.body.Tie as tie

pub body_spec : {M : Type 1} → statement M
body_spec =
    tie.close
    (tie.spec
    (λ c. search rules)
    (λ c. search rules)
    (λ c. search rules)
    (λ c. search no_body)
    (λ c. search rules)
    (λ c. sym (length-take-le _ _ (search rules)))
    (λ c. search a_body))
