-- `decide_records::store_place` meets its contract, a law a return.
use Rattle.decide_records.proofs.RegisterLaws.{store_held, store_vacant}
use borrow.Author.Rules.{rules}
use Rattle.decide_records.proofs.store_place.Statement.{statement}
use Rattle.decide_records.proofs.store_place.Tie as tie

pub store_place_spec : {M : Type 1} → statement M
store_place_spec =
    tie.close
    (tie.spec
    (λ c κs. search rules)
    (λ c κs. search rules)
    (λ c. search rules)
    (λ c. search store_held)
    (λ c. search rules)
    (λ c κs. search rules)
    (λ c. search store_vacant))
