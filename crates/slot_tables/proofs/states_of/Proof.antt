-- `slot_tables::states_of` meets its contract: the invariant speaks of the states that are left to be stored.
use mathlib.Core.Path.{◌≡◌}
use mathlib.Core.List.{map}
use Prim.Native.Nat.{◌-◌, ◌≤◌}
use borrow.Author.Rules.{rules}
use lib.ListN.{length, drop}
use lib.Seq.{sets}
use Rattle.row_types.specs.Index.{state_in}
use Rattle.row_types.proofs.LoopLaws.{fill_start, field_turn, fill_ended}
use Rattle.slot_tables.proofs.states_of.Statement.{statement}
use Rattle.slot_tables.proofs.states_of.Tie as tie

abbrev invariant-loop-i : tie.invariant-loop-i
invariant-loop-i slots states₀ i₀ states i = (length slots ≡ 8) × (i ≤ 8) × (sets states i (map state_in (drop i slots)) ≡ map state_in slots)

abbrev decreases-loop-i : tie.decreases-loop-i
decreases-loop-i slots states₀ i₀ states i = 8 - i

pub states_of_spec : {M : Type 1} → statement M
states_of_spec =
    tie.close
    (tie.spec
    invariant-loop-i
    decreases-loop-i
    (λ c. (search rules, search rules, search (fill_start, rules)))
    (λ c. search rules)
    (λ c. search rules)
    (λ c. search rules)
    (λ c. search rules)
    (λ c. search rules)
    (λ c. (search rules, search rules, search (field_turn state_in)))
    (λ c. search fill_ended))
