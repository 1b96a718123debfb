-- `card_incoming::index_of` meets its contract, an arm at a time.
use mathlib.Core.Path.{refl}
use Rattle.card_attributes.specs.Table.{table}
use Rattle.card_incoming.proofs.IncomingLaws.{index_arm, index_none}
use Rattle.card_incoming.proofs.index_of.Statement.{statement}
use Rattle.card_incoming.proofs.index_of.Tie as tie

pub index_of_spec : {M : Type 1} → statement M
unfolding table
index_of_spec =
    tie.close
    (tie.spec
    (λ c. index_arm _ _ _ c.in-4277076.is refl)
    (λ c. index_arm _ _ _ c.in-4342868.is refl)
    (λ c. index_arm _ _ _ c.in-4410445.is refl)
    (λ c. index_arm _ _ _ c.in-4410453.is refl)
    (λ c. index_arm _ _ _ c.in-4475719.is refl)
    (λ c. index_arm _ _ _ c.in-4805972.is refl)
    (λ c. index_arm _ _ _ c.in-4932438.is refl)
    (λ c. index_arm _ _ _ c.in-4932942.is refl)
    (λ c. index_arm _ _ _ c.in-4936270.is refl)
    (λ c. index_arm _ _ _ c.in-4936524.is refl)
    (λ c. index_arm _ _ _ c.in-4936771.is refl)
    (λ c. index_arm _ _ _ c.in-5456461.is refl)
    (λ c. index_arm _ _ _ c.in-5457731.is refl)
    (λ c. index_arm _ _ _ c.in-5457742.is refl)
    (λ c. index_arm _ _ _ c.in-5590093.is refl)
    (λ c. index_arm _ _ _ c.in-5656132.is refl)
    (λ c. search index_none))
