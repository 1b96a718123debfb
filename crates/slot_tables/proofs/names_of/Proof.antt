-- `slot_tables::names_of` meets its contract: the invariant speaks of the names that are left to be stored.
use mathlib.Core.Path.{◌≡◌}
use mathlib.Core.List.{map}
use Prim.Native.Nat.{◌-◌, ◌≤◌}
use borrow.Author.Rules.{rules}
use lib.ListN.{length, drop}
use lib.Seq.{sets}
use Rattle.row_types.specs.Index.{kept_name}
use Rattle.row_types.proofs.LoopLaws.{fill_start, field_turn, fill_ended}
use Rattle.slot_tables.proofs.names_of.Statement.{statement}
use Rattle.slot_tables.proofs.names_of.Tie as tie

abbrev invariant-loop-i : tie.invariant-loop-i
invariant-loop-i slots names₀ i₀ names i = (length slots ≡ 8) × (i ≤ 8) × (sets names i (map kept_name (drop i slots)) ≡ map kept_name slots)

abbrev decreases-loop-i : tie.decreases-loop-i
decreases-loop-i slots names₀ i₀ names i = 8 - i

pub names_of_spec : {M : Type 1} → statement M
names_of_spec =
    tie.close
    (tie.spec
    invariant-loop-i
    decreases-loop-i
    (λ c. (search rules, search rules, search (fill_start, rules)))
    (λ c. search rules)
    (λ c. search rules)
    (λ c. search rules)
    (λ c. search rules)
    (λ c. search rules)
    (λ c. search rules)
    (λ c. (search rules, search rules, search (field_turn kept_name)))
    (λ c. search fill_ended))
