-- `register_keys::judge_register` meets its contract, a law a return.
use Rattle.register_keys.proofs.KeyLaws.{free_sound, free_key, free_owner, filled_sound, filled_key, filled_owner}
use borrow.Author.Rules.{rules}
use Rattle.register_keys.proofs.judge_register.Statement.{statement}
use Rattle.register_keys.proofs.judge_register.Tie as tie

pub judge_register_spec : {M : Type 1} → statement M
judge_register_spec =
    tie.close
    (tie.spec
    (λ c κs. search rules)
    (λ c. (search free_sound, ((λ z. search free_key), (λ z. search free_owner))))
    (λ c κs. search rules)
    (λ c. (search filled_sound, ((λ z. search filled_key), (λ z. search filled_owner)))))
