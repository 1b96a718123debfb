-- `field_values::read_field` meets its contract, laws for the value and for the place at each return.
use Rattle.field_values.proofs.ReadLaws.{none_left, none_next, not_closed, open_next, empty_field, empty_next, content_room, field_here, next_here}
use borrow.Author.Rules.{rules}
use Rattle.field_values.proofs.read_field.Statement.{statement}
use Rattle.field_values.proofs.read_field.Tie as tie

pub read_field_spec : {M : Type 1} → statement M
read_field_spec =
    tie.close
    (tie.spec
    (λ c. (search none_left, (tt, search none_next)))
    (λ c κs. search rules)
    (λ c. (search not_closed, (tt, search open_next)))
    (λ c. (search empty_field, (tt, search empty_next)))
    (λ c. search rules)
    (λ c. search rules)
    (λ c κs. (search content_room, search rules))
    (λ c κs. search rules)
    (λ c. (search field_here, (search rules, search next_here))))
