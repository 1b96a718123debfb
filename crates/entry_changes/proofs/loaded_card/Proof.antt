-- `entry_changes::loaded_card` meets its contract: the card is written from the request's own parts.
use Rattle.byte_bounds.proofs.BoundsLaws.{taken}
use Rattle.entry_changes.proofs.ChangeLaws.{card_room, card_values, card_made}
use borrow.Author.Rules.{rules}
use Rattle.entry_changes.proofs.loaded_card.Statement.{statement}
use Rattle.entry_changes.proofs.loaded_card.Tie as tie

pub loaded_card_spec : {M : Type 1} → statement M
loaded_card_spec =
    tie.close
    (tie.spec
    (λ c κs. search rules)
    (λ c κs. search rules)
    (λ c κs. (search (card_values, taken), search (card_room, taken)))
    (λ c. search (card_made, taken)))
