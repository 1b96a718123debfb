-- `decide_payloads::one_number` meets its contract, a law a return.
use Rattle.decide_payloads.proofs.ReaderLaws.{no_number, number_alone}
use borrow.Author.Rules.{rules}
use Rattle.decide_payloads.proofs.one_number.Statement.{statement}
use Rattle.decide_payloads.proofs.one_number.Tie as tie

pub one_number_spec : {M : Type 1} → statement M
one_number_spec =
    tie.close
    (tie.spec
    (λ c κs. search rules)
    (λ c. search rules)
    (λ c. search no_number)
    (λ c. search number_alone))
