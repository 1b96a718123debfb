-- `record_identities::is_identity_in_form` meets its contract: a chain of four tests, each of a field by its bounds.
use Rattle.record_identities.specs.Identities.{identity_in_form}
use Rattle.record_parser.proofs.FieldLaws.{field_fits}
use Rattle.record_identities.proofs.Chain.{field_chain}
use borrow.Author.Rules.{rules}
use Rattle.record_identities.proofs.is_identity_in_form.Statement.{statement}
use Rattle.record_identities.proofs.is_identity_in_form.Tie as tie

returns_4 : tie.Need-returns
unfolding identity_in_form
returns_4 c = search (field_chain, rules)

pub is_identity_in_form_spec : {M : Type 1} → statement M
unfolding identity_in_form
is_identity_in_form_spec =
    tie.close
    (tie.spec
    (λ c. search rules)
    (λ c κs. search (field_fits, rules))
    (λ c. search (field_chain, rules))
    (λ c. search rules)
    (λ c κs. search (field_fits, rules))
    (λ c. search (field_chain, rules))
    (λ c. search rules)
    (λ c κs. search (field_fits, rules))
    (λ c. search (field_chain, rules))
    (λ c. search rules)
    (λ c κs. search (field_fits, rules))
    returns_4)
