-- `row_soundness::find_keys` meets its contract, a law a return.
use Rattle.row_soundness.proofs.SoundLaws.{unsound_cases, all_sound, owners_named, filled_front, keys_front}
use borrow.Author.Rules.{rules}
use Rattle.row_soundness.proofs.find_keys.Statement.{statement}
use Rattle.row_soundness.proofs.find_keys.Tie as tie

pub find_keys_spec : {M : Type 1} → statement M
find_keys_spec =
    tie.close
    (tie.spec
    (λ c κs. search rules)
    (λ c κs. search rules)
    (λ c. (search unsound_cases, ((λ z. search rules), (λ z. search rules))))
    (λ c κs. search rules)
    (λ c. search rules)
    (λ c. search (filled_front, rules))
    (λ c κs. search rules)
    (λ c κs. search rules)
    (λ c. (search unsound_cases, ((λ z. search rules), (λ z. search rules))))
    (λ c. search rules)
    (λ c. search (filled_front, rules))
    (λ c κs. search rules)
    (λ c κs. search rules)
    (λ c. (search unsound_cases, ((λ z. search rules), (λ z. search rules))))
    (λ c. search rules)
    (λ c. search keys_front)
    (λ c κs. search rules)
    (λ c κs. search rules)
    (λ c. (search unsound_cases, ((λ z. search rules), (λ z. search rules))))
    (λ c. (search all_sound, (search rules, search owners_named))))
