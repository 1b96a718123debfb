-- `record_types::read_response` meets its contract: the record, then its identities.
use Rattle.byte_strings.proofs.Flags.{nope}
use Rattle.record_parser.proofs.FieldLaws.{found_fields, field_fits}
use Rattle.record_identities.proofs.Chain.{chain}
use Rattle.record_types.specs.KeyRecords.{bar, parses_response}
use Rattle.record_types.proofs.PartLaws.{identity_in, fields_in_lem, is_response}
use borrow.Author.Rules.{rules}
use Rattle.record_types.proofs.read_response.Statement.{statement}
use Rattle.record_types.proofs.read_response.Tie as tie

pub read_response_spec : {M : Type 1} → statement M
unfolding parses_response
read_response_spec =
    tie.close
    (tie.spec
    (λ c. search rules)
    (λ c. (search chain, λ e. nope (cc)))
    (λ c. search rules)
    (λ c κs. search (field_fits bar 4, found_fields, rules))
    (λ c κs. search rules)
    (λ c. (search (chain, identity_in 4, rules), λ e. nope (cc)))
    (λ c. search rules)
    (λ c κs. search (field_fits bar 4, found_fields, rules))
    (λ c κs. search rules)
    (λ c. (search (chain, identity_in 4, rules), search (is_response, fields_in_lem 4, rules))))
