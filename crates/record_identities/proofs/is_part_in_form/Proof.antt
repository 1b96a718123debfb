-- `record_identities::is_part_in_form` meets its contract: the form of the part.
use Rattle.record_identities.proofs.Chain.{form_of}
use borrow.Author.Rules.{rules}
use Rattle.record_identities.proofs.is_part_in_form.Statement.{statement}
use Rattle.record_identities.proofs.is_part_in_form.Tie as tie

pub is_part_in_form_spec : {M : Type 1} → statement M
is_part_in_form_spec =
    tie.close
    (tie.spec
    (λ c κs. search rules)
    (λ c κs. search rules)
    (λ c. search form_of))
