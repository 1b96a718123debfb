-- `row_soundness::unsound` meets its contract by computation.
use mathlib.Core.Path.{refl}
use Rattle.row_soundness.proofs.unsound.Statement.{statement}
use Rattle.row_soundness.proofs.unsound.Tie as tie

pub unsound_spec : {M : Type 1} → statement M
unsound_spec =
    tie.close
    (tie.spec
    (λ c. refl))
