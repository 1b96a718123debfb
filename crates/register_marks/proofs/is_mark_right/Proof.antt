-- `register_marks::is_mark_right` meets its contract, a law a return.
use Rattle.register_marks.proofs.MarkLaws.{mark_closed, mark_other, mark_unowned, mark_pending, mark_loading}
use borrow.Author.Rules.{rules}
use Rattle.register_marks.proofs.is_mark_right.Statement.{statement}
use Rattle.register_marks.proofs.is_mark_right.Tie as tie

pub is_mark_right_spec : {M : Type 1} → statement M
is_mark_right_spec =
    tie.close
    (tie.spec
    (λ c. search mark_closed)
    (λ c. search mark_other)
    (λ c. search mark_unowned)
    (λ c. search rules)
    (λ c. search rules)
    (λ c. search mark_pending)
    (λ c. search mark_loading))
