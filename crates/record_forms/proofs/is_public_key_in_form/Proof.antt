-- `record_forms::is_public_key_in_form` meets its contract: a chain of tests, each of fields by their bounds.
use Rattle.record_parser.proofs.FieldLaws.{field_fits, part_fields}
use Rattle.record_types.specs.KeyRecords.{public_key_in_form}
use Rattle.record_forms.proofs.IdentityLaws.{record_chain}
use borrow.Author.Rules.{rules}
use Rattle.record_forms.proofs.is_public_key_in_form.Statement.{statement}
use Rattle.record_forms.proofs.is_public_key_in_form.Tie as tie

pub is_public_key_in_form_spec : {M : Type 1} → statement M
unfolding public_key_in_form
is_public_key_in_form_spec =
    tie.close
    (tie.spec
    (λ c. search rules)
    (λ c κs. search (field_fits, rules))
    (λ c κs. search (part_fields, rules))
    (λ c. search (record_chain, rules))
    (λ c. search rules)
    (λ c κs. search (field_fits, rules))
    (λ c. search (record_chain, rules))
    (λ c. search rules)
    (λ c κs. search (field_fits, rules))
    (λ c. search (record_chain, rules))
    (λ c κs. search rules)
    (λ c. search (record_chain, rules)))
