-- `register_keys::judge_registers` meets its contract. The invariant speaks of the cards that are left, and of the numbers so far.
use mathlib.Core.Path.{◌≡◌, refl}
use mathlib.Core.Bool.{false}
use mathlib.Core.List.{List, [], map}
use Prim.Native.Nat.{ℕ, ◌-◌, ◌≤◌}
use native.Mathlib.Omega.{arith}
use lib.ListN.{length, take, drop}
use Rattle.row_types.specs.Lists.{every_row}
use Rattle.row_types.specs.Index.{key_number}
use Rattle.row_index.specs.Found.{owner_number}
use Rattle.row_index.specs.Lent.{row_with}
use Rattle.row_index.proofs.LentLoops.{lent_ended, lent_not, lent_turn, turn_written, turns_ended, untold, every_row_lem}
use Rattle.register_keys.specs.Judged.{is_sound_under}
use Rattle.register_keys.proofs.KeyLaws.{judged_number}
use borrow.Author.Rules.{rules}
use Rattle.register_keys.proofs.judge_registers.Statement.{statement}
use Rattle.register_keys.proofs.judge_registers.Tie as tie

abbrev invariant-loop-i : tie.invariant-loop-i
invariant-loop-i cards names keys₀ owners₀ i₀ keys owners i = (length cards ≤ 32) × (length keys ≡ 32) × (length owners ≡ 32) × (i ≤ length cards) × (every_row (λ (x : List ℕ). is_sound_under names (row_with x)) (drop i cards) ≡ every_row (is_sound_under names) (map row_with cards)) × (take i keys ≡ map (λ (x : List ℕ). key_number (row_with x)) (take i cards)) × (take i owners ≡ map (λ (x : List ℕ). owner_number names (row_with x)) (take i cards))

abbrev decreases-loop-i : tie.decreases-loop-i
decreases-loop-i cards names keys₀ owners₀ i₀ keys owners i = length cards - i

loop_again : tie.Need-loop-i-preserved invariant-loop-i decreases-loop-i
loop_again c =
    let j = c.before in
    let l = j.loop-i.invariant in
    let h = j.loop-i-test.true in
    let k = turn_written key_number row_with _ _ _ _ l.5 h (omega (arith, l.0, l.1, h)) _ (judged_number _ _ _ j.judge_register-j.ensures.1.0 c.if-not-j.false) in
    let o = turn_written (owner_number _) row_with _ _ _ _ l.6 h (omega (arith, l.0, l.2, h)) _ (judged_number _ _ _ j.judge_register-j.ensures.1.1 c.if-not-j.false) in
    (search rules, search rules, search rules, search rules, search lent_turn, k, o)

returns_2 : tie.Need-returns invariant-loop-i decreases-loop-i
returns_2 c =
    let l = c.loop-i.invariant in
    let h = c.loop-i-test.false in
    (search lent_ended, (search rules, ((λ z. turns_ended key_number row_with [] _ _ _ l.5 h l.3), (λ z. turns_ended (owner_number _) row_with [] _ _ _ l.6 h l.3))))

pub judge_registers_spec : {M : Type 1} → statement M
judge_registers_spec =
    tie.close
    (tie.spec
    invariant-loop-i
    decreases-loop-i
    (λ c. (search rules, search rules, search rules, search rules, search every_row_lem, refl, refl))
    (λ c. search rules)
    (λ c. search rules)
    (λ c κs. search rules)
    (λ c. (search lent_not, (search rules, ((λ z. untold false refl z), (λ z. untold false refl z)))))
    (λ c. search rules)
    (λ c. search rules)
    (λ c. search rules)
    (λ c. search rules)
    (λ c. search rules)
    (λ c. search rules)
    loop_again
    returns_2)
