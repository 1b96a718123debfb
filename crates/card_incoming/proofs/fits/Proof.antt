-- `card_incoming::fits` meets its contract, a law a return.
use Rattle.card_incoming.proofs.IncomingLaws.{fits_required, fits_optional, fits_empty, fits_engine, fits_kept}
use borrow.Author.Rules.{rules}
use Rattle.card_incoming.proofs.fits.Statement.{statement}
use Rattle.card_incoming.proofs.fits.Tie as tie

pub fits_spec : {M : Type 1} → statement M
fits_spec =
    tie.close
    (tie.spec
    (λ c. search rules)
    (λ c κs. search rules)
    (λ c. search rules)
    (λ c κs. search rules)
    (λ c. search rules)
    (λ c. search fits_empty)
    (λ c κs. search rules)
    (λ c. search rules)
    (λ c κs. search rules)
    (λ c. search fits_required)
    (λ c. search fits_optional)
    (λ c. search fits_engine)
    (λ c. search fits_kept))
