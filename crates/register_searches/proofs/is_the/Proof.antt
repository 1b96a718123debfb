-- `register_searches::is_the` meets its contract by computation.
use mathlib.Core.Path.{refl}
use Rattle.register_searches.proofs.is_the.Statement.{statement}
use Rattle.register_searches.proofs.is_the.Tie as tie

pub is_the_spec : {M : Type 1} → statement M
is_the_spec =
    tie.close
    (tie.spec
    (λ c. refl))
