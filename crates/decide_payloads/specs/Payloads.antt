-- The fields that a command takes out of its payload, and the code's readings of them.
use Rattle.std.specs.Prelude.{ℕ, ◌≡◌, true, cond, List}
use Rattle.std.proofs.Math.Option.{Option, none, some}
use Rattle.byte_bounds.specs.Bounds.{bytes_in, FitIn, Stands}
use Rattle.byte_bounds.specs.declared.Bounds.{Bounds}
use Rattle.field_values.specs.Values.{Value, values_of}
use Rattle.message_commands.specs.declared.Command.TheVariants.{KL, KF, KD}
use Rattle.engine.specs.Requests.{are_fields_of, first_text, second_text, register_in}
use Rattle.decide_payloads.specs.declared.Count.{Count}
use Rattle.decide_payloads.specs.declared.Count.TheVariants as count
use Rattle.decide_payloads.specs.declared.Texts.{Texts}
use Rattle.decide_payloads.specs.declared.TwoTexts.{TwoTexts}
use Rattle.decide_payloads.specs.declared.TwoTexts.TheVariants as texts

-- the only field, a string, as KF has it
abbrev pub text_in : List Value → Option (List ℕ)
text_in vs = cond (are_fields_of KF vs) (some (first_text vs)) none

-- the only field, a number, as KD has it
abbrev pub number_in : List Value → Option ℕ
number_in vs = cond (are_fields_of KD vs) (some (register_in vs)) none

-- the first, and the second, of two fields that are strings, as KL has them
abbrev pub first_text_in : List Value → Option (List ℕ)
first_text_in vs = cond (are_fields_of KL vs) (some (first_text vs)) none

abbrev pub second_text_in : List Value → Option (List ℕ)
second_text_in vs = cond (are_fields_of KL vs) (some (second_text vs)) none

-- the number that was read
abbrev pub count_in : Count → Option ℕ
count_in (count.Is n) = some n
count_in count.Nothing = none

-- what stands between the first bounds, and between the second
abbrev pub first_between : List ℕ → TwoTexts → Option (List ℕ)
first_between p (texts.At t) = some (bytes_in p t.first)
first_between p texts.Nothing = none

abbrev pub second_between : List ℕ → TwoTexts → Option (List ℕ)
second_between p (texts.At t) = some (bytes_in p t.second)
second_between p texts.Nothing = none

-- both bounds lie within n bytes
abbrev pub TwoWithin : ℕ → TwoTexts → Type 0
TwoWithin n (texts.At t) = FitIn n t.first × FitIn n t.second
TwoWithin n texts.Nothing = Unit

-- the payload s is just one string, within the bounds
pub record OnlyText (s : List ℕ) (b : Bounds) : Type 0 where
  pub typed : are_fields_of KF (values_of s) ≡ true
  pub stands : Stands s b (first_text (values_of s))

-- the payload s is just two strings, within the bounds of each
pub record BothTexts (s : List ℕ) (t : Texts) : Type 0 where
  pub typed : are_fields_of KL (values_of s) ≡ true
  pub first_stands : Stands s t.first (first_text (values_of s))
  pub second_stands : Stands s t.second (second_text (values_of s))
