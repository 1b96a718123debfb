-- `decide_records::has_session` meets its contract, a law a return.
use Rattle.decide_records.proofs.WordLaws.{session_pending, session_loading}
use borrow.Author.Rules.{rules}
use Rattle.decide_records.proofs.has_session.Statement.{statement}
use Rattle.decide_records.proofs.has_session.Tie as tie

pub has_session_spec : {M : Type 1} → statement M
has_session_spec =
    tie.close
    (tie.spec
    (λ c κs. search rules)
    (λ c. search session_pending)
    (λ c κs. search rules)
    (λ c. search session_loading))
