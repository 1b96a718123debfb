-- `record_parser::cut_fields` meets its contract. What is noted, and what is left, are the pieces of the body.
use mathlib.Core.Path.{◌≡◌}
use Prim.Native.Nat.{◌+◌, ◌-◌, ◌≤◌}
use lib.ListN.{length}
use borrow.Author.Rules.{rules}
use Rattle.byte_strings.proofs.Flags.{nope}
use Rattle.record_parser.proofs.CutLaws.{Cut, cut_starts, too_few, cut_turn, all_cut, all_fields}
use Rattle.record_parser.proofs.cut_fields.Statement.{statement}
use Rattle.record_parser.proofs.cut_fields.Tie as tie

abbrev invariant-loop-n : tie.invariant-loop-n
invariant-loop-n delimiter count body fields₀ at₀ n₀ fields at n =
    (count ≤ 5) × (length fields ≡ 6) × (at ≤ length body) × (n ≤ count + 1) × Cut delimiter body fields at n

abbrev decreases-loop-n : tie.decreases-loop-n
decreases-loop-n delimiter count body fields₀ at₀ n₀ fields at n = count + 1 - n

pub cut_fields_spec : {M : Type 1} → statement M
cut_fields_spec =
    tie.close
    (tie.spec
    invariant-loop-n
    decreases-loop-n
    (λ c. (search rules, search rules, search rules, search rules, search cut_starts))
    (λ c κs. search rules)
    (λ c. (search too_few, λ e. nope (cc)))
    (λ c. search rules)
    (λ c. search rules)
    (λ c. search rules)
    (λ c. search rules)
    (λ c. search rules)
    (λ c. (search rules, search rules, search rules, search rules, search cut_turn))
    (λ c. (search all_cut, search all_fields)))
