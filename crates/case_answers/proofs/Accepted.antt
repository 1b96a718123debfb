-- An accepted answer: no question was a no.
use mathlib.Core.Path.{◌≡◌, refl}
use mathlib.Core.Bool.{true}
use mathlib.Core.Option.{Option, none, some}
use Rattle.byte_strings.proofs.Flags.{nope}
use Rattle.engine.specs.Questions.{Call, questions, first_no}
use Rattle.engine.specs.Answers.{answer_of}
use Rattle.engine.specs.declared.Refusal.{Refusal}
use Rattle.engine.proofs.AnswerLaws.{is_yes, first_no_decides}

pub none_first : (x : Call) → is_yes (answer_of x).outcome ≡ true → first_no (questions x) ≡ none
none_first x y = go (first_no (questions x)) refl
  where
    go : (o : Option Refusal) → first_no (questions x) ≡ o → o ≡ none
    go (some r) e = let w = first_no_decides x r e in nope (cc)
    go none e = refl
