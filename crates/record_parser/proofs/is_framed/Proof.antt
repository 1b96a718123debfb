-- `record_parser::is_framed` meets its contract, a law a return.
use Rattle.record_parser.proofs.ParseLaws.{too_short, no_room, other_type, sum_tested}
use borrow.Author.Rules.{rules}
use Rattle.record_parser.proofs.is_framed.Statement.{statement}
use Rattle.record_parser.proofs.is_framed.Tie as tie

pub is_framed_spec : {M : Type 1} → statement M
is_framed_spec =
    tie.close
    (tie.spec
    (λ c. search too_short)
    (λ c. search rules)
    (λ c. search no_room)
    (λ c κs. search rules)
    (λ c. search other_type)
    (λ c κs. search rules)
    (λ c. search sum_tested))
