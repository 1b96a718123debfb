-- `decide_records::known_place` meets its contract.
use Rattle.byte_bounds.proofs.BoundsLaws.{taken}
use Rattle.decide_records.proofs.WordLaws.{place_named}
use borrow.Author.Rules.{rules}
use Rattle.decide_records.proofs.known_place.Statement.{statement}
use Rattle.decide_records.proofs.known_place.Tie as tie

pub known_place_spec : {M : Type 1} → statement M
known_place_spec =
    tie.close
    (tie.spec
    (λ c κs. search rules)
    (λ c κs. search rules)
    (λ c. search (place_named, taken)))
