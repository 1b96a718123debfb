-- `entry_usable::is_usable` meets its contract, a law a return.
use Rattle.decide_counts.proofs.CountLaws.{few_slots, few_registers}
use Rattle.entry_usable.proofs.UsableLaws.{lent_few, lent_front, in_places, counts_no, sound_no, first_no_lem, beyond_no, free_no, mark_decides}
use borrow.Author.Rules.{rules}
use Rattle.entry_usable.proofs.is_usable.Statement.{statement}
use Rattle.entry_usable.proofs.is_usable.Tie as tie

pub is_usable_spec : {M : Type 1} → statement M
is_usable_spec =
    tie.close
    (tie.spec
    (λ c κs. search rules)
    (λ c. search counts_no)
    (λ c. search (lent_front, few_registers))
    (λ c κs. (search few_slots, search (lent_few, few_registers)))
    (λ c. search sound_no)
    (λ c. search first_no_lem)
    (λ c. search (beyond_no, few_registers))
    (λ c κs. (search rules, in_places _ _ c.if-m-register.false (few_registers _ _ _ c.are_counts.ensures c.if-not-are_counts.false-raw)))
    (λ c. search (free_no, few_registers))
    (λ c κs. (search rules, in_places _ _ c.if-m-register.false (few_registers _ _ _ c.are_counts.ensures c.if-not-are_counts.false-raw)))
    (λ c. search (mark_decides, few_registers, rules)))
