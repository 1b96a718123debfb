-- What questions 1 and 2 come to, in numbers.
use Rattle.std.specs.Prelude.{ℕ, List, [], ◌∷◌, leb}
use Rattle.std.proofs.Math.Option.{Option, none, some}
use Rattle.engine.specs.Refusals.{refusal}
use Rattle.engine.specs.Questions.{Question, ◌otherwise◌, are_counts, first_no}
use Rattle.engine.specs.declared.Refusal.{Refusal}
use Rattle.engine.specs.declared.Refusal.TheVariants.{RowCounts, ShortBuffer}

-- the first two of `table_questions`
abbrev first_questions : ℕ → ℕ → ℕ → List Question
first_questions slots registers room =
    (are_counts slots registers otherwise RowCounts)
    ∷ (leb 1024 room otherwise ShortBuffer)
    ∷ []

abbrev number_in : Option Refusal → ℕ
number_in none = 0
number_in (some r) = (refusal r).number

-- the number of the first no; 0 where there is none
abbrev pub first_refusal : ℕ → ℕ → ℕ → ℕ
first_refusal slots registers room = number_in (first_no (first_questions slots registers room))
