-- `slot_tables::are_slots_sound` meets its contract: the invariant speaks of the rows that are left.
use mathlib.Core.Path.{◌≡◌, refl}
use Prim.Native.Nat.{◌-◌, ◌≤◌}
use borrow.Author.Rules.{rules}
use lib.ListN.{length, drop, take}
use Rattle.row_types.specs.Lists.{every_row}
use Rattle.row_types.specs.Slots.{is_slot_sound}
use Rattle.row_types.proofs.LoopLaws.{every_ended, every_not, every_turn}
use Rattle.slot_tables.proofs.are_slots_sound.Statement.{statement}
use Rattle.slot_tables.proofs.are_slots_sound.Tie as tie

abbrev invariant-loop-i : tie.invariant-loop-i
invariant-loop-i n slots i₀ i = (length slots ≡ 8) × (n ≤ 8) × (i ≤ n) × (every_row is_slot_sound (drop i (take n slots)) ≡ every_row is_slot_sound (take n slots))

abbrev decreases-loop-i : tie.decreases-loop-i
decreases-loop-i n slots i₀ i = n - i

pub are_slots_sound_spec : {M : Type 1} → statement M
are_slots_sound_spec =
    tie.close
    (tie.spec
    invariant-loop-i
    decreases-loop-i
    (λ c. (search rules, search rules, search rules, refl))
    (λ c. search rules)
    (λ c. search rules)
    (λ c κs. search rules)
    (λ c. search every_not)
    (λ c. search rules)
    (λ c. search rules)
    (λ c. (search rules, search rules, search rules, search every_turn))
    (λ c. search every_ended))
