-- `response_slot_queries::put_registers` meets its contract: the invariant speaks of the owners that are left.
use mathlib.Core.Path.{◌≡◌, refl}
use Prim.Native.Nat.{◌+◌, ◌*◌, ◌-◌, ◌≤◌}
use borrow.Author.Rules.{rules}
use lib.ListN.{length, drop, take}
use Rattle.field_values.specs.Values.{payload_bytes}
use Rattle.row_types.specs.Lists.{numbers_from, in_turn}
use Rattle.row_types.specs.RowReplies.{number_fields}
use Rattle.row_types.proofs.LoopLaws.{rows_end}
use Rattle.row_types.proofs.WriteLoops.{Remains, all_remains, turns_ended}
use Rattle.row_index.specs.Found.{is_the}
use Rattle.response_slot_queries.proofs.QueryLaws.{one_number, numbers_told, owner_told}
use Rattle.response_slot_queries.proofs.put_registers.Statement.{statement}
use Rattle.response_slot_queries.proofs.put_registers.Tie as tie

abbrev invariant-loop-i : tie.invariant-loop-i
invariant-loop-i dst₀ at m slot owners end₀ i₀ dst end i = (length owners ≡ 32) × (m ≤ 32) × (i ≤ m) × (length dst ≡ length dst₀) × (end ≤ at + 12 * i) × Remains dst₀ at (payload_bytes (number_fields (numbers_from (is_the slot) 1 (take m owners)))) dst end (in_turn (one_number slot) i (drop i (take m owners)))

abbrev decreases-loop-i : tie.decreases-loop-i
decreases-loop-i dst₀ at m slot owners end₀ i₀ dst end i = m - i

loop_again : tie.Need-loop-i-preserved invariant-loop-i decreases-loop-i
loop_again c =
    let wrote = c.before.before.put_register-end.ensures in
    let test = c.before.before.before.before in
    let inv = test.before.loop-i.invariant in
    (search rules, search rules, search rules, search rules, search rules, owner_told _ _ _ _ _ wrote.0 inv.5 inv.0 inv.1 test.loop-i-test.true)

pub put_registers_spec : {M : Type 1} → statement M
put_registers_spec =
    tie.close
    (tie.spec
    invariant-loop-i
    decreases-loop-i
    (λ c. (search rules, search rules, search rules, refl, search rules, search (all_remains, numbers_told)))
    (λ c. search rules)
    (λ c. search rules)
    (λ c. search rules)
    (λ c. search rules)
    (λ c κs. search rules)
    (λ c. search rules)
    (λ c. search rules)
    loop_again
    (λ c. search rules)
    (λ c. (search (turns_ended, rows_end), search rules)))
