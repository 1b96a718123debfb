-- `decide_slots::ask_slot` meets its contract, a law a return.
use Rattle.card_entries.proofs.EntryLaws.{start_le, end_le}
use Rattle.decide_questions.proofs.RowLaws.{slot_unread, slot_unknown, slot_known}
use borrow.Author.Rules.{rules}
use Rattle.decide_slots.proofs.ask_slot.Statement.{statement}
use Rattle.decide_slots.proofs.ask_slot.Tie as tie

pub ask_slot_spec : {M : Type 1} → statement M
ask_slot_spec =
    tie.close
    (tie.spec
    (λ c κs. search rules)
    (λ c. search rules)
    (λ c. search rules)
    (λ c. search slot_unread)
    (λ c. search start_le)
    (λ c. search start_le)
    (λ c. search end_le)
    (λ c κs. search rules)
    (λ c. search rules)
    (λ c. search rules)
    (λ c. search slot_unknown)
    (λ c. search slot_known))
