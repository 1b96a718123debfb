-- `entry_changes::pending_row` meets its contract: the parts are those of the record.
use Rattle.byte_bounds.proofs.BoundsLaws.{taken}
use Rattle.entry_changes.proofs.ChangeLaws.{row_made}
use borrow.Author.Rules.{rules}
use Rattle.entry_changes.proofs.pending_row.Statement.{statement}
use Rattle.entry_changes.proofs.pending_row.Tie as tie

pub pending_row_spec : {M : Type 1} → statement M
pending_row_spec =
    tie.close
    (tie.spec
    (λ c κs. search rules)
    (λ c κs. search rules)
    (λ c κs. search rules)
    (λ c. search (row_made, taken)))
