-- `response_slot_queries::put_register` meets its contract, a law a return.
use Rattle.field_writer.proofs.Lengths.{number_room}
use Rattle.response_slot_queries.proofs.QueryLaws.{other_untold, number_told}
use borrow.Author.Rules.{rules}
use Rattle.response_slot_queries.proofs.put_register.Statement.{statement}
use Rattle.response_slot_queries.proofs.put_register.Tie as tie

pub put_register_spec : {M : Type 1} → statement M
put_register_spec =
    tie.close
    (tie.spec
    (λ c κs. search (number_room, rules))
    (λ c. search rules)
    (λ c. (search number_told, search rules))
    (λ c. (search (other_untold, c.if-owner-slot.false), search rules)))
