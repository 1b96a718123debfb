-- `decide_counts::are_counts` meets its contract, a law a return.
use Rattle.decide_counts.proofs.CountLaws.{no_slots, many_slots, no_registers, registers_counted}
use Rattle.decide_counts.proofs.are_counts.Statement.{statement}
use Rattle.decide_counts.proofs.are_counts.Tie as tie

pub are_counts_spec : {M : Type 1} → statement M
are_counts_spec =
    tie.close
    (tie.spec
    (λ c. search no_slots)
    (λ c. search many_slots)
    (λ c. search no_registers)
    (λ c. search registers_counted))
