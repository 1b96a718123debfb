-- `register_keys::judge_card` meets its contract, a law a return; in a card as stored the values stand within it.
use Rattle.register_keys.proofs.KeyLaws.{not_stored, not_owned, owned, its_owner, owner_from, owner_there, owner_to, group_to, revision_to, told}
use borrow.Author.Rules.{rules}
use Rattle.register_keys.proofs.judge_card.Statement.{statement}
use Rattle.register_keys.proofs.judge_card.Tie as tie

pub judge_card_spec : {M : Type 1} → statement M
judge_card_spec =
    tie.close
    (tie.spec
    (λ c κs. search rules)
    (λ c κs. search rules)
    (λ c. (search not_stored, ((λ z. search rules), (λ z. search rules))))
    (λ c κs. (search owner_from, search owner_there, search owner_to))
    (λ c κs. search rules)
    (λ c. (search not_owned, ((λ z. search rules), (λ z. search rules))))
    (λ c κs. (search group_to, search revision_to))
    (λ c. (search owned, ((λ z. search told), (λ z. search its_owner)))))
