-- `record_types::read_public_key` meets its contract: the record, then its identity.
use Rattle.byte_strings.proofs.Flags.{nope}
use Rattle.record_parser.proofs.FieldLaws.{found_fields, field_fits}
use Rattle.record_identities.proofs.Chain.{chain}
use Rattle.record_types.specs.KeyRecords.{bar, parses_public_key}
use Rattle.record_types.proofs.PartLaws.{identity_in, fields_in_lem, is_key}
use borrow.Author.Rules.{rules}
use Rattle.record_types.proofs.read_public_key.Statement.{statement}
use Rattle.record_types.proofs.read_public_key.Tie as tie

pub read_public_key_spec : {M : Type 1} → statement M
unfolding parses_public_key
read_public_key_spec =
    tie.close
    (tie.spec
    (λ c. search rules)
    (λ c. (search chain, λ e. nope (cc)))
    (λ c. search rules)
    (λ c κs. search (field_fits bar 5, found_fields, rules))
    (λ c κs. search rules)
    (λ c. (search (chain, identity_in 5, rules), search (is_key, fields_in_lem 5, rules))))
