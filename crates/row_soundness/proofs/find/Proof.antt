-- `row_soundness::find` meets its contract, a law a return.
use Rattle.row_soundness.proofs.MarkLaws.{cards_unsound, owners_up, marks_wrong, marks_sound, keys_told, owners_told}
use borrow.Author.Rules.{rules}
use Rattle.row_soundness.proofs.find.Statement.{statement}
use Rattle.row_soundness.proofs.find.Tie as tie

pub find_spec : {M : Type 1} → statement M
find_spec =
    tie.close
    (tie.spec
    (λ c κs. search rules)
    (λ c κs. search rules)
    (λ c. (search cards_unsound, ((λ z. search rules), (λ z. search rules))))
    (λ c κs. search rules)
    (λ c κs. (search rules, search owners_up))
    (λ c κs. search rules)
    (λ c. (search (marks_wrong, rules), ((λ z. search rules), (λ z. search rules))))
    (λ c. (search (marks_sound, rules), (search keys_told, search owners_told))))
