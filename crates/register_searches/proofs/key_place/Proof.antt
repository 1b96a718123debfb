-- `register_searches::key_place` meets its contract. The invariant speaks of the keys that are left.
use mathlib.Core.Path.{◌≡◌, refl}
use Prim.Native.Nat.{◌-◌, ◌≤◌}
use lib.ListN.{length, take, drop}
use Rattle.row_types.specs.Lists.{first_from}
use Rattle.row_types.proofs.LoopLaws.{first_ended, first_here, first_turn}
use Rattle.row_index.specs.Found.{is_the}
use borrow.Author.Rules.{rules}
use Rattle.register_searches.proofs.key_place.Statement.{statement}
use Rattle.register_searches.proofs.key_place.Tie as tie

abbrev invariant-loop-i : tie.invariant-loop-i
invariant-loop-i m key keys i₀ i = (length keys ≡ 32) × (m ≤ 32) × (i ≤ m) × (first_from (is_the key) i (drop i (take m keys)) ≡ first_from (is_the key) 0 (take m keys))

abbrev decreases-loop-i : tie.decreases-loop-i
decreases-loop-i m key keys i₀ i = m - i

pub key_place_spec : {M : Type 1} → statement M
key_place_spec =
    tie.close
    (tie.spec
    invariant-loop-i
    decreases-loop-i
    (λ c. (search rules, search rules, search rules, refl))
    (λ c. search rules)
    (λ c. search rules)
    (λ c κs. search rules)
    (λ c. (search first_here, search rules))
    (λ c. search rules)
    (λ c. search rules)
    (λ c. (search rules, search rules, search rules, search first_turn))
    (λ c. (search first_ended, search rules)))
