-- `response_fields::put_loaded` meets its contract: the number, then the card.
use Rattle.field_writer.proofs.Lengths.{number_room}
use Rattle.response_fields.proofs.FieldsWritten.{then_fields, card_fits, card_short}
use borrow.Author.Rules.{rules}
use Rattle.response_fields.proofs.put_loaded.Statement.{statement}
use Rattle.response_fields.proofs.put_loaded.Tie as tie

returns : tie.Need-returns
returns c = (search then_fields, search card_short)

pub put_loaded_spec : {M : Type 1} → statement M
put_loaded_spec =
    tie.close
    (tie.spec
    (λ c. search rules)
    (λ c. search rules)
    (λ c κs. search (number_room, rules))
    (λ c κs. (search rules, search card_fits))
    (λ c. search rules)
    returns)
