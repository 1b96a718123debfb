-- `message_commands::command_of` meets its contract. What is left of the headers is what is left to compare.
use mathlib.Core.Path.{◌≡◌, refl}
use Prim.Native.Nat.{◌-◌, ◌≤◌}
use lib.ListN.{drop}
use Rattle.message_commands.specs.Commands.{headers, named, command_of}
use Rattle.message_commands.proofs.HeaderLaws.{none_named, named_here, named_later}
use borrow.Author.Rules.{rules}
use Rattle.message_commands.proofs.command_of.Statement.{statement}
use Rattle.message_commands.proofs.command_of.Tie as tie

abbrev invariant-loop-k : tie.invariant-loop-k
invariant-loop-k h k₀ k = (k ≤ 10) × (named (drop k headers) h ≡ named headers h)

abbrev decreases-loop-k : tie.decreases-loop-k
decreases-loop-k h k₀ k = 10 - k

returns_2 : tie.Need-returns invariant-loop-k decreases-loop-k
unfolding command_of
returns_2 c = search none_named

pub command_of_spec : {M : Type 1} → statement M
unfolding command_of
command_of_spec =
    tie.close
    (tie.spec
    invariant-loop-k
    decreases-loop-k
    (λ c. (search rules, refl))
    (λ c κs. search rules)
    (λ c. search rules)
    (λ c κs. search rules)
    (λ c. search named_here)
    (λ c. search rules)
    (λ c. search rules)
    (λ c. (search rules, search named_later))
    returns_2)
