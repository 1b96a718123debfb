-- `slot_names::are_names_distinct` meets its contract. Both invariants speak of the names that are left.
use mathlib.Core.Path.{◌≡◌, refl}
use Prim.Native.Nat.{◌+◌, ◌-◌, ◌≤◌, ◌<◌}
use lib.ListN.{length, drop}
use Rattle.row_types.specs.Lists.{some_row, distinct_rows}
use Rattle.row_types.specs.Index.{is_called, is_same_name}
use Rattle.row_types.proofs.LoopLaws.{some_turn, pairs_ended}
use Rattle.slot_names.proofs.NameLaws.{names_turn, names_alike}
use borrow.Author.Rules.{rules}
use Rattle.slot_names.proofs.are_names_distinct.Statement.{statement}
use Rattle.slot_names.proofs.are_names_distinct.Tie as tie

abbrev invariant-loop-j : tie.invariant-loop-j
invariant-loop-j names i a j₀ j = (i < length names) × (j ≤ length names) × (some_row (is_called a) (drop j names) ≡ some_row (is_called a) (drop (i + 1) names))

abbrev decreases-loop-j : tie.decreases-loop-j
decreases-loop-j names i a j₀ j = length names - j

abbrev invariant-loop-i : tie.invariant-loop-i
invariant-loop-i names i₀ i = (i ≤ length names) × (distinct_rows is_same_name (drop i names) ≡ distinct_rows is_same_name names)

abbrev decreases-loop-i : tie.decreases-loop-i
decreases-loop-i names i₀ i = length names - i

pub are_names_distinct_spec : {M : Type 1} → statement M
are_names_distinct_spec =
    tie.close
    (tie.spec
    invariant-loop-j
    decreases-loop-j
    invariant-loop-i
    decreases-loop-i
    (λ c. (search rules, refl))
    (λ c. search rules)
    (λ c. search rules)
    (λ c κs. search rules)
    (λ c. search rules)
    (λ c. (search rules, search rules, refl))
    (λ c. search rules)
    (λ c. search rules)
    (λ c κs. search rules)
    (λ c. search names_alike)
    (λ c. search rules)
    (λ c. search rules)
    (λ c. (search rules, search rules, search some_turn))
    (λ c. search rules)
    (λ c. search rules)
    (λ c. (search rules, search names_turn))
    (λ c. search pairs_ended))
