-- `record_forms::are_last_empty` meets its contract: two tests, each of a field by its bounds.
use Rattle.record_parser.proofs.FieldLaws.{field_fits}
use Rattle.record_identities.proofs.Chain.{field_chain}
use borrow.Author.Rules.{rules}
use Rattle.record_forms.proofs.are_last_empty.Statement.{statement}
use Rattle.record_forms.proofs.are_last_empty.Tie as tie

pub are_last_empty_spec : {M : Type 1} → statement M
are_last_empty_spec =
    tie.close
    (tie.spec
    (λ c. search rules)
    (λ c κs. search (field_fits, rules))
    (λ c. search (field_chain, rules))
    (λ c. search rules)
    (λ c κs. search (field_fits, rules))
    (λ c. search (field_chain, rules)))
