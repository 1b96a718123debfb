-- `entry_usable::is_usable_in` meets its contract: cards and marks are those of the rows.
use Rattle.entry_usable.proofs.UsableLaws.{usable_in}
use borrow.Author.Rules.{rules}
use Rattle.entry_usable.proofs.is_usable_in.Statement.{statement}
use Rattle.entry_usable.proofs.is_usable_in.Tie as tie

returns : tie.Need-returns
returns c = search usable_in

pub is_usable_in_spec : {M : Type 1} → statement M
is_usable_in_spec =
    tie.close
    (tie.spec
    (λ c κs. search rules)
    (λ c κs. search rules)
    (λ c. search rules)
    (λ c κs. search rules)
    returns)
