-- `decide_loads::decide_load` meets its contract: the fields are those of the command, or refused.
use Rattle.engine.specs.declared.Refusal.TheVariants.{BadFields}
use Rattle.decide_parts.proofs.PartLaws.{refused}
use Rattle.decide_questions.proofs.RecordLaws.{texts_refused, both_texts}
use borrow.Author.Rules.{rules}
use Rattle.decide_loads.proofs.decide_load.Statement.{statement}
use Rattle.decide_loads.proofs.decide_load.Tie as tie

pub decide_load_spec : {M : Type 1} → statement M
decide_load_spec =
    tie.close
    (tie.spec
    (λ c κs. search rules)
    (λ c. search rules)
    (λ c. search rules)
    (λ c κs. search rules)
    (λ c k h i x. refused _ BadFields _ _ (search rules) (search texts_refused))
    (λ c κs. (search rules, (search rules, search both_texts)))
    (λ c. search rules))
