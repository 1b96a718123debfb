-- `card_steps::lesser` meets its contract.
use mathlib.Core.Path.{refl}
use mathlib.Core.Logic.{inl, inr}
use borrow.Author.Rules.{rules}
use Rattle.card_steps.proofs.lesser.Statement.{statement}
use Rattle.card_steps.proofs.lesser.Tie as tie

pub lesser_spec : {M : Type 1} → statement M
lesser_spec = tie.close (tie.spec (λ c. (search rules, inl refl)) (λ c. (search rules, inr refl)))
