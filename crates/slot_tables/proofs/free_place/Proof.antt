-- `slot_tables::free_place` meets its contract: the invariant speaks of the rows that are left.
use mathlib.Core.Path.{◌≡◌, refl}
use Prim.Native.Nat.{◌-◌, ◌≤◌}
use borrow.Author.Rules.{rules}
use lib.ListN.{length, drop, take}
use Rattle.row_types.specs.Lists.{first_from}
use Rattle.row_types.specs.Slots.{has_state}
use Rattle.row_types.specs.declared.SlotState.TheVariants.{Free}
use Rattle.row_types.proofs.LoopLaws.{first_ended, first_here, first_turn}
use Rattle.slot_tables.proofs.free_place.Statement.{statement}
use Rattle.slot_tables.proofs.free_place.Tie as tie

abbrev invariant-loop-k : tie.invariant-loop-k
invariant-loop-k n slots k₀ k = (length slots ≡ 8) × (n ≤ 8) × (k ≤ n) × (first_from (has_state Free) k (drop k (take n slots)) ≡ first_from (has_state Free) 0 (take n slots))

abbrev decreases-loop-k : tie.decreases-loop-k
decreases-loop-k n slots k₀ k = n - k

pub free_place_spec : {M : Type 1} → statement M
free_place_spec =
    tie.close
    (tie.spec
    invariant-loop-k
    decreases-loop-k
    (λ c. (search rules, search rules, search rules, refl))
    (λ c. search rules)
    (λ c. search rules)
    (λ c κs. search rules)
    (λ c. (search first_here, search rules))
    (λ c. search rules)
    (λ c. search rules)
    (λ c. (search rules, search rules, search rules, search first_turn))
    (λ c. (search first_ended, search rules)))
