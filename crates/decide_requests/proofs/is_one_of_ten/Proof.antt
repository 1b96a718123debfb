-- `decide_requests::is_one_of_ten` meets its contract, an arm at a time.
use Rattle.decide_requests.proofs.CallLaws.{header_arm}
use borrow.Author.Rules.{rules}
use Rattle.decide_requests.proofs.is_one_of_ten.Statement.{statement}
use Rattle.decide_requests.proofs.is_one_of_ten.Tie as tie

pub is_one_of_ten_spec : {M : Type 1} → statement M
is_one_of_ten_spec =
    tie.close
    (tie.spec
    (λ c. search rules)
    (λ c. search rules)
    (λ c. search rules)
    (λ c. search rules)
    (λ c. search rules)
    (λ c. search rules)
    (λ c. search rules)
    (λ c. search rules)
    (λ c. search rules)
    (λ c. search rules)
    (λ c. search rules)
    (λ c. search header_arm)
    (λ c. search header_arm)
    (λ c. search header_arm)
    (λ c. search header_arm)
    (λ c. search header_arm)
    (λ c. search header_arm)
    (λ c. search header_arm)
    (λ c. search header_arm)
    (λ c. search header_arm)
    (λ c. search header_arm)
    (λ c. search header_arm))
