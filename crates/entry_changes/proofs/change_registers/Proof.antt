-- `entry_changes::change_registers` meets its contract, an arm at a time.
use Rattle.entry_changes.proofs.ChangeLaws.{all_can, load_can, load_fits, load_parts, load_length, close_sum, close_count, delete_slot_sum, delete_slot_count, delete_slot_cards, delete_key_can, delete_key_fits, reset_left, load_left, close_left, delete_slot_left, delete_key_left, registers_kept}
use borrow.Author.Rules.{rules}
use Rattle.entry_changes.proofs.change_registers.Statement.{statement}
use Rattle.entry_changes.proofs.change_registers.Tie as tie

returns_3 : tie.Need-returns-in-Close
returns_3 c = search (close_left, rules)

returns_4 : tie.Need-returns-in-DeleteSlot
returns_4 c = search (delete_slot_left, rules)

pub change_registers_spec : {M : Type 1} → statement M
change_registers_spec =
    tie.close
    (tie.spec
    (λ c. search rules)
    (λ c κs. search (all_can, rules))
    (λ c. search rules)
    (λ c κs. (search load_parts, search load_length))
    (λ c. search (load_can, load_fits, rules))
    (λ c. search (load_can, load_fits, rules))
    (λ c. search (load_can, rules))
    (λ c. search rules)
    (λ c. search (close_sum, rules))
    (λ c κs. search (close_count, rules))
    (λ c. search rules)
    (λ c. search (delete_slot_sum, rules))
    (λ c κs. (search (delete_slot_count, rules), search (delete_slot_cards, rules)))
    (λ c. search (delete_slot_sum, rules))
    (λ c κs. search (delete_slot_count, rules))
    (λ c. search rules)
    (λ c. search (delete_key_can, delete_key_fits, rules))
    (λ c. search (delete_key_can, delete_key_fits, rules))
    (λ c. search (delete_key_can, rules))
    (λ c. search (reset_left, rules))
    (λ c. search rules)
    (λ c. search (load_left, rules))
    returns_3
    (λ c. search rules)
    returns_4
    (λ c. search rules)
    (λ c. search (delete_key_left, rules))
    (λ c. search registers_kept))
