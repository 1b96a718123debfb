-- `slot_order::sequence_of` meets its contract: the places of the rows from i on stand in order, from first on.
use mathlib.Core.Path.{◌≡◌}
use Prim.Native.Nat.{◌≤◌}
use borrow.Author.Rules.{rules}
use lib.ListN.{length, take, drop}
use Rattle.byte_orders.specs.Orders.{sorted_by}
use Rattle.slot_order.specs.Sequences.{is_before_at, filled_from}
use Rattle.slot_order.proofs.SequenceLaws.{none_placed, placed_below, free_passed, row_placed, all_placed}
use Rattle.slot_order.proofs.sequence_of.Statement.{statement}
use Rattle.slot_order.proofs.sequence_of.Tie as tie

abbrev invariant-loop-i : tie.invariant-loop-i
invariant-loop-i n slots names places₀ first₀ i₀ places first i = (length slots ≡ 8) × (length names ≡ 8) × (length places ≡ 8) × (n ≤ 8) × (i ≤ n) × (i ≤ first) × (first ≤ 8) × (drop first places ≡ sorted_by (is_before_at names) (filled_from i (drop i (take n slots))))

abbrev decreases-loop-i : tie.decreases-loop-i
decreases-loop-i n slots names places₀ first₀ i₀ places first i = i

-- a row that is not free
loop_again_2 : tie.Need-loop-i-preserved invariant-loop-i decreases-loop-i
loop_again_2 c = (search rules, search rules, search rules, search rules, search rules, search rules, search rules, search row_placed)

-- the rows whose places they are show only in the invariant, so it is given
insert_requires : tie.Need-insert-after-requires invariant-loop-i decreases-loop-i
insert_requires c κs =
    let l = c.before.before.before.before in
    let inv = l.before.loop-i.invariant in
    (search rules, search rules, placed_below _ _ _ _ _ _ inv.7 inv.0 inv.3 inv.4 l.loop-i-test.true inv.5 inv.1)

-- a free row
pub sequence_of_spec : {M : Type 1} → statement M
sequence_of_spec =
    tie.close
    (tie.spec
    invariant-loop-i
    decreases-loop-i
    (λ c κs. search rules)
    (λ c. (search rules, search rules, search rules, search rules, search rules, search rules, search rules, search (none_placed, rules)))
    (λ c. search rules)
    (λ c. search rules)
    (λ c. search rules)
    (λ c κs. search rules)
    (λ c. search rules)
    (λ c. (search rules, search rules, search rules, search rules, search rules, search rules, search rules, search free_passed))
    (λ c. search rules)
    (λ c. search rules)
    insert_requires
    (λ c. search rules)
    loop_again_2
    (λ c. (search all_placed, search rules)))
