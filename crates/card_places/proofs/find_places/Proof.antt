-- `card_places::find_places` meets its contract: each place is the one after the entry before it.
use Rattle.card_places.proofs.Fitting.{krn_place, ksl_place, ktc_place, sgc_place, is_stored_lem}
use borrow.Author.Rules.{rules}
use Rattle.card_places.proofs.find_places.Statement.{statement}
use Rattle.card_places.proofs.find_places.Tie as tie

-- this one has a name, so that it is judged by itself, and not only where what is called is proved
returns : tie.Need-returns
returns c = (search is_stored_lem, (search krn_place, (search ksl_place, (search ktc_place, search sgc_place))))

pub find_places_spec : {M : Type 1} → statement M
find_places_spec =
    tie.close
    (tie.spec
    (λ c κs. search rules)
    (λ c κs. search rules)
    (λ c κs. search rules)
    (λ c κs. search rules)
    (λ c κs. search rules)
    (λ c κs. search rules)
    (λ c κs. search rules)
    (λ c κs. search rules)
    (λ c κs. search rules)
    returns)
