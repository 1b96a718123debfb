-- `card_steps::digit_count` meets its contract. The place and what is left of the run are the whole run.
use mathlib.Core.Path.{◌≡◌}
use Prim.Native.Nat.{◌+◌, ◌-◌, ◌≤◌}
use lib.ListN.{length, drop}
use Rattle.byte_strings.specs.Strings.{run}
use Rattle.byte_strings.proofs.StringLaws.{run_ended}
use Rattle.text_classes.specs.Classes.{is_of}
use Rattle.text_classes.specs.declared.Class.TheVariants.{Digit}
use Rattle.card_steps.proofs.Numbers.{digits_stopped, digits_turn}
use borrow.Author.Rules.{rules}
use Rattle.card_steps.proofs.digit_count.Statement.{statement}
use Rattle.card_steps.proofs.digit_count.Tie as tie

abbrev invariant-loop-i : tie.invariant-loop-i
invariant-loop-i v i₀ i = (i ≤ length v) × (i + run (is_of Digit) (drop i v) ≡ run (is_of Digit) v)

abbrev decreases-loop-i : tie.decreases-loop-i
decreases-loop-i v i₀ i = length v - i

pub digit_count_spec : {M : Type 1} → statement M
digit_count_spec =
    tie.close
    (tie.spec
    invariant-loop-i
    decreases-loop-i
    (λ c. search rules)
    (λ c. search rules)
    (λ c κs. search rules)
    (λ c. (search digits_stopped, search rules))
    (λ c. search rules)
    (λ c. search rules)
    (λ c. (search rules, search digits_turn))
    (λ c. (search run_ended, search rules)))
