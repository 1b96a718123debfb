-- `slot_tables::slot_place` meets its contract: the invariant speaks of the rows that are left.
use mathlib.Core.Path.{◌≡◌, refl}
use Prim.Native.Nat.{◌-◌, ◌≤◌}
use borrow.Author.Rules.{rules}
use lib.ListN.{length, drop, take}
use Rattle.row_types.specs.Lists.{first_from}
use Rattle.row_types.specs.Slots.{is_named}
use Rattle.row_types.proofs.LoopLaws.{first_ended, first_here, first_turn}
use Rattle.slot_tables.proofs.slot_place.Statement.{statement}
use Rattle.slot_tables.proofs.slot_place.Tie as tie

abbrev invariant-loop-i : tie.invariant-loop-i
invariant-loop-i n name slots i₀ i = (length slots ≡ 8) × (n ≤ 8) × (i ≤ n) × (first_from (is_named name) i (drop i (take n slots)) ≡ first_from (is_named name) 0 (take n slots))

abbrev decreases-loop-i : tie.decreases-loop-i
decreases-loop-i n name slots i₀ i = n - i

pub slot_place_spec : {M : Type 1} → statement M
slot_place_spec =
    tie.close
    (tie.spec
    invariant-loop-i
    decreases-loop-i
    (λ c. (search rules, search rules, search rules, refl))
    (λ c. search rules)
    (λ c. search rules)
    (λ c κs. search rules)
    (λ c. (search first_here, search rules))
    (λ c. search rules)
    (λ c. search rules)
    (λ c. (search rules, search rules, search rules, search first_turn))
    (λ c. (search first_ended, search rules)))
