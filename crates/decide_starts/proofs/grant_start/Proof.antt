-- `decide_starts::grant_start` meets its contract.
use Rattle.byte_bounds.proofs.BoundsLaws.{handed}
use borrow.Author.Rules.{rules}
use Rattle.decide_starts.proofs.grant_start.Statement.{statement}
use Rattle.decide_starts.proofs.grant_start.Tie as tie

pub grant_start_spec : {M : Type 1} → statement M
grant_start_spec =
    tie.close
    (tie.spec
    (λ c κs. search rules)
    (λ c κs. search rules)
    (λ c κs. search rules)
    (λ c. search handed))
