-- `row_supplements::is_load_request_right` meets its contract, a law a return; the request is at most the 700 bytes that there are.
use Rattle.row_supplements.proofs.SupplementLaws.{no_request, long_request, request_text, room, front}
use borrow.Author.Rules.{rules}
use Rattle.row_supplements.proofs.is_load_request_right.Statement.{statement}
use Rattle.row_supplements.proofs.is_load_request_right.Tie as tie

pub is_load_request_right_spec : {M : Type 1} → statement M
is_load_request_right_spec =
    tie.close
    (tie.spec
    (λ c. search no_request)
    (λ c. search long_request)
    (λ c. search (room, rules))
    (λ c. search (front, rules))
    (λ c κs. search rules)
    (λ c. search request_text))
