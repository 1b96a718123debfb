-- `field_values::number_of` meets its contract; ten digits are read, and a number up to 2147483647 fits.
use Rattle.field_values.proofs.ReadLaws.{no_number, a_number, number_room, number_small}
use borrow.Author.Rules.{rules}
use Rattle.field_values.proofs.number_of.Statement.{statement}
use Rattle.field_values.proofs.number_of.Tie as tie

pub number_of_spec : {M : Type 1} → statement M
number_of_spec =
    tie.close
    (tie.spec
    (λ c κs. search rules)
    (λ c. search no_number)
    (λ c κs. search number_room)
    (λ c. search number_small)
    (λ c. search a_number))
