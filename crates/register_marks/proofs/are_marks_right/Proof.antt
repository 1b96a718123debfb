-- `register_marks::are_marks_right` meets its contract. The invariant speaks of the marks that are left.
use mathlib.Core.Path.{◌≡◌, refl}
use Prim.Native.Nat.{◌-◌, ◌≤◌}
use lib.ListN.{length, take, drop}
use Rattle.register_marks.specs.Marked.{are_marks_right, AreUpTo}
use Rattle.register_marks.proofs.MarkLaws.{low_owner, marks_ended, marks_not, marks_turn}
use borrow.Author.Rules.{rules}
use Rattle.register_marks.proofs.are_marks_right.Statement.{statement}
use Rattle.register_marks.proofs.are_marks_right.Tie as tie

abbrev invariant-loop-i : tie.invariant-loop-i
invariant-loop-i states m owners marks i₀ i =
    (length owners ≡ 32) × (length marks ≡ 32) × (m ≤ 32) × (i ≤ m) × AreUpTo 8 (take m owners)
    × (are_marks_right states (drop i (take m owners)) (drop i marks) ≡ are_marks_right states (take m owners) marks)

abbrev decreases-loop-i : tie.decreases-loop-i
decreases-loop-i states m owners marks i₀ i = m - i

pub are_marks_right_spec : {M : Type 1} → statement M
are_marks_right_spec =
    tie.close
    (tie.spec
    invariant-loop-i
    decreases-loop-i
    (λ c. (search rules, search rules, search rules, search rules, search rules, refl))
    (λ c. search rules)
    (λ c. search rules)
    (λ c. search rules)
    (λ c κs. search low_owner)
    (λ c. search marks_not)
    (λ c. search rules)
    (λ c. search rules)
    (λ c. (search rules, search rules, search rules, search rules, search rules, search marks_turn))
    (λ c. search marks_ended))
