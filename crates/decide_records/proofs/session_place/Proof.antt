-- `decide_records::session_place` meets its contract, a law a return.
use Rattle.decide_records.proofs.WordLaws.{session_known, session_free}
use borrow.Author.Rules.{rules}
use Rattle.decide_records.proofs.session_place.Statement.{statement}
use Rattle.decide_records.proofs.session_place.Tie as tie

returns : tie.Need-returns-in-At
returns c = search session_known

returns_2 : tie.Need-returns
returns_2 c = search session_free

pub session_place_spec : {M : Type 1} → statement M
session_place_spec =
    tie.close
    (tie.spec
    (λ c κs. search rules)
    (λ c. search rules)
    returns
    (λ c. search rules)
    (λ c κs. search rules)
    returns_2)
