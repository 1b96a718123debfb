-- `decide_payloads::two_texts` meets its contract, laws for the first and for the second at each return.
use Rattle.decide_payloads.proofs.ReaderLaws.{no_first, no_first_second, first_alone, first_alone_second, first_of_two, second_of_two}
use Rattle.field_values.proofs.ReadLaws.{bound_cases}
use borrow.Author.Rules.{rules}
use Rattle.decide_payloads.proofs.two_texts.Statement.{statement}
use Rattle.decide_payloads.proofs.two_texts.Tie as tie

pub two_texts_spec : {M : Type 1} → statement M
two_texts_spec =
    tie.close
    (tie.spec
    (λ c κs. search rules)
    (λ c. search rules)
    (λ c. (search no_first, (search no_first_second, tt)))
    (λ c. search rules)
    (λ c. (search first_alone, (search first_alone_second, tt)))
    (λ c. (search first_of_two, (search second_of_two, ((search bound_cases, search bound_cases), (search bound_cases, search bound_cases))))))
