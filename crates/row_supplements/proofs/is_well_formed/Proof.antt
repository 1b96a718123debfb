-- `row_supplements::is_well_formed` meets its contract: a chain of six tests.
use Rattle.row_types.specs.Supplements.{is_well_formed}
use Rattle.record_identities.proofs.Chain.{chain}
use Rattle.row_supplements.proofs.SupplementLaws.{neither, yes_or_no}
use borrow.Author.Rules.{rules}
use Rattle.row_supplements.proofs.is_well_formed.Statement.{statement}
use Rattle.row_supplements.proofs.is_well_formed.Tie as tie

pub is_well_formed_spec : {M : Type 1} → statement M
unfolding is_well_formed
is_well_formed_spec =
    tie.close
    (tie.spec
    (λ c κs. search rules)
    (λ c. search chain)
    (λ c κs. search rules)
    (λ c. search chain)
    (λ c κs. search rules)
    (λ c. search chain)
    (λ c κs. search rules)
    (λ c. search chain)
    (λ c κs. search rules)
    (λ c. search chain)
    (λ c. search (chain, neither))
    (λ c. search (chain, yes_or_no)))
