-- `card_incoming::fits_at` meets its contract, a law a return.
use Rattle.card_incoming.proofs.IncomingLaws.{fits_past, fits_row}
use borrow.Author.Rules.{rules}
use Rattle.card_incoming.proofs.fits_at.Statement.{statement}
use Rattle.card_incoming.proofs.fits_at.Tie as tie

pub fits_at_spec : {M : Type 1} → statement M
fits_at_spec =
    tie.close
    (tie.spec
    (λ c κs. search rules)
    (λ c. search fits_past)
    (λ c κs. search rules)
    (λ c κs. search rules)
    (λ c. search fits_row))
