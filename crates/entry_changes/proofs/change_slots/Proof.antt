-- `entry_changes::change_slots` meets its contract, an arm at a time.
use Rattle.entry_changes.proofs.ChangeLaws.{reset_can, start_can, start_fits, start_parts, open_can, open_fits, close_can, close_fits, delete_slot_can, delete_slot_fits, slots_kept, reset_made, start_made, open_made, close_made, delete_slot_made}
use borrow.Author.Rules.{rules}
use Rattle.entry_changes.proofs.change_slots.Statement.{statement}
use Rattle.entry_changes.proofs.change_slots.Tie as tie

returns : tie.Need-returns-in-Reset
returns c = search reset_made

returns_4 : tie.Need-returns-in-Close
returns_4 c = search (close_made, close_can, rules)

pub change_slots_spec : {M : Type 1} → statement M
change_slots_spec =
    tie.close
    (tie.spec
    (λ c. search rules)
    (λ c κs. search (reset_can, rules))
    (λ c. search rules)
    (λ c κs. search start_parts)
    (λ c. search (start_can, start_fits, rules))
    (λ c. search (start_can, start_fits, rules))
    (λ c. search rules)
    (λ c. search (open_can, open_fits, rules))
    (λ c. search (open_can, open_fits, rules))
    (λ c κs. search rules)
    (λ c. search (open_can, open_fits, rules))
    (λ c. search (open_can, open_fits, rules))
    (λ c. search rules)
    (λ c. search (close_can, close_fits, rules))
    (λ c. search (close_can, close_fits, rules))
    (λ c κs. search rules)
    (λ c. search (close_can, close_fits, rules))
    (λ c. search (close_can, close_fits, rules))
    (λ c. search rules)
    (λ c κs. search rules)
    (λ c. search (delete_slot_can, delete_slot_fits, rules))
    (λ c. search (delete_slot_can, delete_slot_fits, rules))
    returns
    (λ c. search start_made)
    (λ c. search (open_made, open_can, rules))
    returns_4
    (λ c. search delete_slot_made)
    (λ c. search slots_kept))
