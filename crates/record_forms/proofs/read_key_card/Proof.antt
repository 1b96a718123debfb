-- `record_forms::read_key_card` meets its contract: three tests, and the values of the card.
use Rattle.record_parser.proofs.FieldLaws.{field_fits}
use Rattle.record_forms.proofs.CardLaws.{key_judged, key_values}
use borrow.Author.Rules.{rules}
use Rattle.record_forms.proofs.read_key_card.Statement.{statement}
use Rattle.record_forms.proofs.read_key_card.Tie as tie

pub read_key_card_spec : {M : Type 1} → statement M
read_key_card_spec =
    tie.close
    (tie.spec
    (λ c. search rules)
    (λ c κs. search (field_fits, rules))
    (λ c. search rules)
    (λ c κs. search (field_fits, rules))
    (λ c κs. search rules)
    (λ c. search rules)
    (λ c κs. search (field_fits, rules))
    (λ c. (search key_judged, search key_values)))
