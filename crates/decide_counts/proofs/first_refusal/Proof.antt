-- `decide_counts::first_refusal` meets its contract, a law a return.
use Rattle.decide_counts.proofs.CountLaws.{first_counts, first_room, first_yes}
use borrow.Author.Rules.{rules}
use Rattle.decide_counts.proofs.first_refusal.Statement.{statement}
use Rattle.decide_counts.proofs.first_refusal.Tie as tie

pub first_refusal_spec : {M : Type 1} → statement M
first_refusal_spec =
    tie.close
    (tie.spec
    (λ c κs. search rules)
    (λ c. search first_counts)
    (λ c. search first_room)
    (λ c. search first_yes))
