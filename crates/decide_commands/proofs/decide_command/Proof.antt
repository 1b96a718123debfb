-- `decide_commands::decide_command` meets its contract, an arm at a time.
use Rattle.decide_commands.proofs.ArmLaws.{arm_fields, arm_slots, arm_registers, arm_session, arm_load, no_arm}
use borrow.Author.Rules.{rules}
use Rattle.decide_commands.proofs.decide_command.Statement.{statement}
use Rattle.decide_commands.proofs.decide_command.Tie as tie

pub decide_command_spec : {M : Type 1} → statement M
decide_command_spec =
    tie.close
    (tie.spec
    (λ c. search rules)
    (λ c κs. search rules)
    (λ c κs. search rules)
    (λ c. search rules)
    (λ c κs. search rules)
    (λ c. search rules)
    (λ c κs. search rules)
    (λ c. search rules)
    (λ c κs. search rules)
    (λ c. search rules)
    (λ c κs. search rules)
    (λ c κs. search rules)
    (λ c. search rules)
    (λ c κs. search rules)
    (λ c κs. search rules)
    (λ c. search rules)
    (λ c κs. search rules)
    (λ c κs. search rules)
    (λ c. search rules)
    (λ c κs. search rules)
    (λ c κs. search rules)
    (λ c. search rules)
    (λ c κs. search rules)
    (λ c κs. search rules)
    (λ c. search rules)
    (λ c κs. search rules)
    (λ c κs. search rules)
    (λ c. search rules)
    (λ c κs. search rules)
    (λ c. search arm_fields)
    (λ c. search arm_session)
    (λ c. search arm_session)
    (λ c. search arm_load)
    (λ c. search arm_slots)
    (λ c. search arm_slots)
    (λ c. search arm_registers)
    (λ c. search arm_registers)
    (λ c. search arm_fields)
    (λ c. search arm_slots)
    (λ c. search no_arm))
