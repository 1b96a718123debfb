-- `slot_tables::reset_slots` meets its contract: the rows before i are swept, and those beyond n as they were.
use Prim.Native.Nat.{◌-◌, ◌≤◌}
use borrow.Author.Rules.{rules}
use Rattle.row_types.specs.Slots.{reset_slot}
use Rattle.row_types.proofs.LoopLaws.{Sweeping, sweep_starts, sweep_turn, sweep_ends}
use Rattle.slot_tables.proofs.reset_slots.Statement.{statement}
use Rattle.slot_tables.proofs.reset_slots.Tie as tie

abbrev invariant-loop-i : tie.invariant-loop-i
invariant-loop-i n after₀ i₀ after i = (n ≤ 8) × (i ≤ n) × Sweeping reset_slot n 8 after₀ after i

abbrev decreases-loop-i : tie.decreases-loop-i
decreases-loop-i n after₀ i₀ after i = n - i

pub reset_slots_spec : {M : Type 1} → statement M
reset_slots_spec =
    tie.close
    (tie.spec
    invariant-loop-i
    decreases-loop-i
    (λ c. (search rules, search rules, search (sweep_starts, rules)))
    (λ c. search rules)
    (λ c. search rules)
    (λ c κs. search rules)
    (λ c. search rules)
    (λ c. search rules)
    (λ c. search rules)
    (λ c. search rules)
    (λ c. (search rules, search rules, search sweep_turn))
    (λ c. search sweep_ends))
