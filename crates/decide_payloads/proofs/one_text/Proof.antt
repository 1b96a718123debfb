-- `decide_payloads::one_text` meets its contract, a law a return.
use Rattle.decide_payloads.proofs.ReaderLaws.{no_text, text_alone}
use Rattle.field_values.proofs.ReadLaws.{bound_cases}
use borrow.Author.Rules.{rules}
use Rattle.decide_payloads.proofs.one_text.Statement.{statement}
use Rattle.decide_payloads.proofs.one_text.Tie as tie

pub one_text_spec : {M : Type 1} → statement M
one_text_spec =
    tie.close
    (tie.spec
    (λ c κs. search rules)
    (λ c. search rules)
    (λ c. (search no_text, tt))
    (λ c. (search text_alone, (search bound_cases, search bound_cases))))
