-- `field_values::next_after` meets its contract, by the cases of the field.
use Rattle.field_values.proofs.ReadLaws.{after_field}
use borrow.Author.Rules.{rules}
use Rattle.field_values.proofs.next_after.Statement.{statement}
use Rattle.field_values.proofs.next_after.Tie as tie

pub next_after_spec : {M : Type 1} → statement M
next_after_spec =
    tie.close
    (tie.spec
    (λ c. search rules)
    (λ c. search rules)
    (λ c. search rules)
    (λ c. search after_field))
