-- `card_incoming::has_required` meets its contract: the test computes over the table.
use mathlib.Core.Bool.{not, and-true}
use lib.Dec.{eqb}
use lib.ListN.{get_or}
use borrow.Author.Rules.{rules}
use Rattle.byte_bounds.specs.Bounds.{nowhere}
use Rattle.card_attributes.specs.Table.{table}
use Rattle.card_incoming.proofs.has_required.Statement.{statement}
use Rattle.card_incoming.proofs.has_required.Tie as tie

returns : tie.Need-returns
unfolding table
returns c = rw (and-true (not (eqb (get_or c.args.values 12 nowhere).start 0)))

pub has_required_spec : {M : Type 1} → statement M
has_required_spec =
    tie.close
    (tie.spec
    (λ c. search rules)
    (λ c. search rules)
    (λ c. search rules)
    (λ c. search rules)
    (λ c. search rules)
    (λ c. search rules)
    (λ c. search rules)
    returns)
