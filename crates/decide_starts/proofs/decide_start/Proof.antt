-- `decide_starts::decide_start` meets its contract: the field is that of the command, or refused.
use Rattle.engine.specs.declared.Refusal.TheVariants.{BadFields}
use Rattle.decide_parts.proofs.PartLaws.{refused}
use Rattle.decide_questions.proofs.RecordLaws.{text_refused, only_text}
use borrow.Author.Rules.{rules}
use Rattle.decide_starts.proofs.decide_start.Statement.{statement}
use Rattle.decide_starts.proofs.decide_start.Tie as tie

pub decide_start_spec : {M : Type 1} → statement M
decide_start_spec =
    tie.close
    (tie.spec
    (λ c κs. search rules)
    (λ c. search rules)
    (λ c. search rules)
    (λ c κs. search rules)
    (λ c k h x. refused _ BadFields _ _ (search rules) (search text_refused))
    (λ c κs. (search rules, search only_text))
    (λ c. search rules))
