-- `decide_records::is_own_module` meets its contract, a law a return.
use Rattle.row_supplements.proofs.SupplementLaws.{room, front}
use Rattle.record_parser.proofs.FieldLaws.{field_fits, part_is}
use Rattle.decide_records.proofs.WordLaws.{same_of, own_all}
use borrow.Author.Rules.{rules}
use Rattle.decide_records.proofs.is_own_module.Statement.{statement}
use Rattle.decide_records.proofs.is_own_module.Tie as tie

pub is_own_module_spec : {M : Type 1} → statement M
is_own_module_spec =
    tie.close
    (tie.spec
    (λ c. search rules)
    (λ c κs. search (field_fits, rules))
    (λ c. search rules)
    (λ c κs. search rules)
    (λ c. search (own_all, part_is, rules))
    (λ c. search (room, rules))
    (λ c. search (front, rules))
    (λ c κs. search rules)
    (λ c. search (same_of, part_is, rules)))
