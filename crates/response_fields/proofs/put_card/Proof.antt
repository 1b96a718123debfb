-- `response_fields::put_card` meets its contract: the card is what stands before its zeros.
use Rattle.response_fields.proofs.FieldsWritten.{shown_fits, shown_short, shown}
use borrow.Author.Rules.{rules}
use Rattle.response_fields.proofs.put_card.Statement.{statement}
use Rattle.response_fields.proofs.put_card.Tie as tie

pub put_card_spec : {M : Type 1} → statement M
put_card_spec =
    tie.close
    (tie.spec
    (λ c κs. search rules)
    (λ c κs. search shown_fits)
    (λ c. search rules)
    (λ c. (search shown, search shown_short)))
