-- `field_values::field_of` meets its contract, a law a return.
use Rattle.field_values.proofs.ReadLaws.{of_string, no_string, of_date, no_date, of_octets, no_octets, no_type, of_number, number_within}
use borrow.Author.Rules.{rules}
use Rattle.field_values.proofs.field_of.Statement.{statement}
use Rattle.field_values.proofs.field_of.Tie as tie

pub field_of_spec : {M : Type 1} → statement M
field_of_spec =
    tie.close
    (tie.spec
    (λ c. search rules)
    (λ c. search rules)
    (λ c. search rules)
    (λ c κs. search rules)
    (λ c. (search of_number, search number_within))
    (λ c κs. search rules)
    (λ c. (search of_string, search rules))
    (λ c. (search no_string, tt))
    (λ c κs. search rules)
    (λ c. (search of_date, search rules))
    (λ c. (search no_date, tt))
    (λ c κs. search rules)
    (λ c. (search of_octets, search rules))
    (λ c. (search no_octets, tt))
    (λ c. (search no_type, tt)))
