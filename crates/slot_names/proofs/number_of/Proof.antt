-- `slot_names::number_of` meets its contract. The invariant speaks of the names that are left.
use mathlib.Core.Path.{◌≡◌, refl}
use Prim.Native.Nat.{◌+◌, ◌-◌, ◌≤◌}
use lib.ListN.{length, drop}
use Rattle.row_types.specs.Lists.{first_from}
use Rattle.row_types.specs.Index.{is_called}
use Rattle.row_index.specs.Found.{or_zero, number_of}
use Rattle.row_index.proofs.NumberOf.{number_ended, number_here, number_turn}
use borrow.Author.Rules.{rules}
use Rattle.slot_names.proofs.number_of.Statement.{statement}
use Rattle.slot_names.proofs.number_of.Tie as tie

abbrev invariant-loop-i : tie.invariant-loop-i
invariant-loop-i names s i₀ i = (i ≤ length names) × (or_zero (first_from (is_called s) (i + 1) (drop i names)) ≡ number_of (is_called s) names)

abbrev decreases-loop-i : tie.decreases-loop-i
decreases-loop-i names s i₀ i = length names - i

pub number_of_spec : {M : Type 1} → statement M
number_of_spec =
    tie.close
    (tie.spec
    invariant-loop-i
    decreases-loop-i
    (λ c. (search rules, refl))
    (λ c. search rules)
    (λ c. search rules)
    (λ c κs. search rules)
    (λ c. search rules)
    (λ c. search number_here)
    (λ c. search rules)
    (λ c. search rules)
    (λ c. (search rules, search number_turn))
    (λ c. search number_ended))
