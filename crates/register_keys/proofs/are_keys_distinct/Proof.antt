-- `register_keys::are_keys_distinct` meets its contract. Both invariants speak of the keys that are left.
use mathlib.Core.Path.{◌≡◌, refl}
use Prim.Native.Nat.{◌+◌, ◌-◌, ◌≤◌, ◌<◌}
use lib.ListN.{length, drop}
use Rattle.row_types.specs.Lists.{some_row, distinct_rows}
use Rattle.row_types.specs.Index.{is_same_number}
use Rattle.row_types.proofs.LoopLaws.{some_turn, pairs_ended, pairs_turn, pair_alike}
use borrow.Author.Rules.{rules}
use Rattle.register_keys.proofs.are_keys_distinct.Statement.{statement}
use Rattle.register_keys.proofs.are_keys_distinct.Tie as tie

abbrev invariant-loop-j : tie.invariant-loop-j
invariant-loop-j keys i a j₀ j = (i < length keys) × (j ≤ length keys) × (some_row (is_same_number a) (drop j keys) ≡ some_row (is_same_number a) (drop (i + 1) keys))

abbrev decreases-loop-j : tie.decreases-loop-j
decreases-loop-j keys i a j₀ j = length keys - j

abbrev invariant-loop-i : tie.invariant-loop-i
invariant-loop-i keys i₀ i = (i ≤ length keys) × (distinct_rows is_same_number (drop i keys) ≡ distinct_rows is_same_number keys)

abbrev decreases-loop-i : tie.decreases-loop-i
decreases-loop-i keys i₀ i = length keys - i

pub are_keys_distinct_spec : {M : Type 1} → statement M
are_keys_distinct_spec =
    tie.close
    (tie.spec
    invariant-loop-j
    decreases-loop-j
    invariant-loop-i
    decreases-loop-i
    (λ c. (search rules, refl))
    (λ c. search rules)
    (λ c. search rules)
    (λ c. search rules)
    (λ c. (search rules, search rules, refl))
    (λ c. search rules)
    (λ c. search rules)
    (λ c κs. search rules)
    (λ c. search pair_alike)
    (λ c. search rules)
    (λ c. search rules)
    (λ c. (search rules, search rules, search some_turn))
    (λ c. search rules)
    (λ c. search rules)
    (λ c. (search rules, search pairs_turn))
    (λ c. search pairs_ended))
