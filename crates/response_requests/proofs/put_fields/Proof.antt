-- `response_requests::put_fields` meets its contract, an arm at a time.
use Rattle.response_requests.proofs.RespondLaws.{start_part, start_short, start_request_lem, start_written, open_part, open_fits, open_short, open_written, load_place, load_in, load_fits, load_written, get_card_place, get_card_in, get_card_fits, get_card_written, query_slot_place, query_slot_fits, query_slot_sum, query_slot_count, query_slot_written, list_slots_count, fields_arm, no_fields}
use borrow.Author.Rules.{rules}
use Rattle.response_requests.proofs.put_fields.Statement.{statement}
use Rattle.response_requests.proofs.put_fields.Tie as tie

pub put_fields_spec : {M : Type 1} → statement M
put_fields_spec =
    tie.close
    (tie.spec
    (λ c. search rules)
    (λ c κs. search rules)
    (λ c κs. search start_part)
    (λ c κs. (search start_short, search start_request_lem, search rules))
    (λ c. search rules)
    (λ c κs. search rules)
    (λ c κs. search open_part)
    (λ c κs. search open_fits)
    (λ c. search rules)
    (λ c. search load_fits)
    (λ c. search load_in)
    (λ c κs. (search load_place, search rules, search rules))
    (λ c. search rules)
    (λ c. search get_card_fits)
    (λ c. search get_card_in)
    (λ c κs. search rules)
    (λ c. search rules)
    (λ c κs. (search (list_slots_count, rules), search rules))
    (λ c. search rules)
    (λ c. search query_slot_fits)
    (λ c. search query_slot_place)
    (λ c. search (query_slot_sum, rules))
    (λ c κs. (search query_slot_count, search rules))
    (λ c. search rules)
    (λ c. (search start_written, search rules))
    (λ c. search rules)
    (λ c. (search open_written, search open_short))
    (λ c. search rules)
    (λ c. (search load_written, search rules))
    (λ c. search rules)
    (λ c. (search (get_card_written, get_card_place), search rules))
    (λ c. search rules)
    (λ c. (search fields_arm, search rules))
    (λ c. search rules)
    (λ c. (search (query_slot_written, rules), search rules))
    (λ c. (search no_fields, search rules)))
