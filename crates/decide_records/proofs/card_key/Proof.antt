-- `decide_records::card_key` meets its contract: SGC and KRN have ten digits at most.
use Rattle.card_incoming.proofs.ValueLaws.{value_fits, sgc_is, krn_is}
use Rattle.decide_records.proofs.RegisterLaws.{group_short, revision_short, key_of, rows_long}
use borrow.Author.Rules.{rules}
use Rattle.decide_records.proofs.card_key.Statement.{statement}
use Rattle.decide_records.proofs.card_key.Tie as tie

pub card_key_spec : {M : Type 1} → statement M
card_key_spec =
    tie.close
    (tie.spec
    (λ c. search rules)
    (λ c κs. search (value_fits, rows_long, rules))
    (λ c κs. search (group_short, sgc_is, rules))
    (λ c. search rules)
    (λ c κs. search (value_fits, rows_long, rules))
    (λ c κs. search (revision_short, krn_is, rules))
    (λ c. search rules)
    (λ c. search rules)
    (λ c. search (key_of, sgc_is, krn_is, rules)))
