-- `response_slot_queries::put_query` meets its contract: the slot's fields, and the registers' numbers.
use Rattle.response_slot_queries.proofs.QueryLaws.{query_told}
use borrow.Author.Rules.{rules}
use Rattle.response_slot_queries.proofs.put_query.Statement.{statement}
use Rattle.response_slot_queries.proofs.put_query.Tie as tie

returns : tie.Need-returns
returns c = (search query_told, search rules)

pub put_query_spec : {M : Type 1} → statement M
put_query_spec =
    tie.close
    (tie.spec
    (λ c κs. search rules)
    (λ c κs. (search rules, search rules))
    (λ c. search rules)
    returns)
