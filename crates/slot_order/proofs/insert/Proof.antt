-- `slot_order::insert` meets its contract: the invariant speaks of the places that are left to be stored, from i on.
use mathlib.Core.Path.{◌≡◌}
use mathlib.Core.Bool.{true}
use Prim.Native.Nat.{◌+◌, ◌-◌, ◌≤◌}
use borrow.Author.Rules.{rules}
use lib.ListN.{length, drop}
use lib.Seq.{sets}
use Rattle.byte_orders.specs.Orders.{inserted_by}
use Rattle.slot_order.specs.Sequences.{is_before_at, are_below}
use Rattle.slot_order.proofs.InsertLaws.{all_left, next_below, rest_below, last_placed, here_placed, moved_up}
use Rattle.slot_order.proofs.insert.Statement.{statement}
use Rattle.slot_order.proofs.insert.Tie as tie

abbrev invariant-loop-i : tie.invariant-loop-i
invariant-loop-i names first place after₀ name i₀ after i = (i ≤ 7) × (length after ≡ 8) × (are_below (length names) (drop (i + 1) after) ≡ true) × (drop first (sets after i (inserted_by (is_before_at names) place (drop (i + 1) after))) ≡ inserted_by (is_before_at names) place (drop (first + 1) after₀))

abbrev decreases-loop-i : tie.decreases-loop-i
decreases-loop-i names first place after₀ name i₀ after i = 7 - i

pub insert_spec : {M : Type 1} → statement M
insert_spec =
    tie.close
    (tie.spec
    invariant-loop-i
    decreases-loop-i
    (λ c. search rules)
    (λ c. search rules)
    (λ c κs. search rules)
    (λ c. (search rules, search rules, search rules, search (all_left, rules)))
    (λ c. search rules)
    (λ c. search rules)
    (λ c. search rules)
    (λ c κs. search (next_below, rules))
    (λ c. search rules)
    (λ c. search rules)
    (λ c. search here_placed)
    (λ c. search rules)
    (λ c. search rules)
    (λ c. search rules)
    (λ c. search rules)
    (λ c. (search rules, search rules, search rest_below, search moved_up))
    (λ c. search rules)
    (λ c. search last_placed))
