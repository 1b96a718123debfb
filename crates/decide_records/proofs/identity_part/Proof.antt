-- `decide_records::identity_part` meets its contract: a part of a part.
use Rattle.decide_records.proofs.WordLaws.{outer_right, inner_right, part_stands}
use borrow.Author.Rules.{rules}
use Rattle.decide_records.proofs.identity_part.Statement.{statement}
use Rattle.decide_records.proofs.identity_part.Tie as tie

pub identity_part_spec : {M : Type 1} → statement M
identity_part_spec =
    tie.close
    (tie.spec
    (λ c. search rules)
    (λ c. search rules)
    (λ c. search rules)
    (λ c κs. (search outer_right, search inner_right))
    (λ c. search part_stands))
