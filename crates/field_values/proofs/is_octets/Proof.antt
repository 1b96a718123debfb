-- `field_values::is_octets` meets its contract, a law a return.
use Rattle.field_values.proofs.ReadLaws.{odd_length, even_length}
use borrow.Author.Rules.{rules}
use Rattle.field_values.proofs.is_octets.Statement.{statement}
use Rattle.field_values.proofs.is_octets.Tie as tie

pub is_octets_spec : {M : Type 1} → statement M
is_octets_spec =
    tie.close
    (tie.spec
    (λ c. search odd_length)
    (λ c κs. search rules)
    (λ c. search even_length))
