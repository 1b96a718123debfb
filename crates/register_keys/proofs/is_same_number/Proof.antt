-- `register_keys::is_same_number` meets its contract, a law a return.
use Rattle.register_keys.proofs.KeyLaws.{no_key, a_key}
use Rattle.register_keys.proofs.is_same_number.Statement.{statement}
use Rattle.register_keys.proofs.is_same_number.Tie as tie

pub is_same_number_spec : {M : Type 1} → statement M
is_same_number_spec =
    tie.close
    (tie.spec
    (λ c. search no_key)
    (λ c. search a_key))
