-- `row_supplements::is_identity_right` meets its contract, a law a return; the record is at most the 128 bytes that there are.
use Rattle.record_parser.proofs.FieldLaws.{found_fields}
use Rattle.row_supplements.proofs.SupplementLaws.{long_identity, other_record, own_record, room, front}
use borrow.Author.Rules.{rules}
use Rattle.row_supplements.proofs.is_identity_right.Statement.{statement}
use Rattle.row_supplements.proofs.is_identity_right.Tie as tie

pub is_identity_right_spec : {M : Type 1} → statement M
is_identity_right_spec =
    tie.close
    (tie.spec
    (λ c. search long_identity)
    (λ c. search (room, rules))
    (λ c. search (front, rules))
    (λ c κs. search rules)
    (λ c. search other_record)
    (λ c. search (room, rules))
    (λ c. search (front, rules))
    (λ c κs. search found_fields)
    (λ c. search own_record))
