-- Questions 1 to 9 are yeses and the card is not in form: question 10 is the first no, and decides.
use mathlib.Core.Path.{◌≡◌, refl, ap, ◌∙◌}
use mathlib.Core.Bool.{Bool, true, false, cond, ◌&&◌}
use mathlib.Core.List.{List, [], ◌∷◌, ◌++◌}
use mathlib.Core.Option.{some}
use Prim.Native.Nat.{ℕ, zero, suc}
use lib.ListN.{length, take, drop}
use Rattle.record_parser.specs.Records.{field}
use Rattle.text_forms.specs.Forms.{in_form}
use Rattle.text_forms.specs.declared.Form.TheVariants.{HexSome}
use Rattle.card_incoming.specs.Incoming.{is_incoming}
use Rattle.record_types.specs.KeyRecords.{bar, key_in_form}
use Rattle.case_samples.specs.Samples.{Sample, sum, reads, timestamp, card, row, AllHold, samples, name_samples}
use Rattle.case_samples.proofs.Hold.{all_hold_lem, names_hold}
use Rattle.message_commands.specs.declared.Command.TheVariants.{KL}
use Rattle.engine.specs.Requests.{command_in, fields_in, record_in, card_in}
use Rattle.engine.specs.Questions.{Call, Question, ◌otherwise◌, table_questions, message_questions, payload_questions, questions, first_no}
use Rattle.engine.specs.Answers.{refused, answer_of}
use Rattle.engine.specs.Outcomes.{outcome_number}
use Rattle.engine.specs.declared.Refusal.TheVariants.{BadForm}
use Rattle.engine.specs.declared.Outcome.TheVariants.{Refused}
use Rattle.engine.proofs.QuestionLaws.{AllYes}

-- after n yeses, the first no is that of the rest
pub after_yeses : (n : ℕ) (qs : List Question) → AllYes (take n qs) → first_no qs ≡ first_no (drop n qs)
after_yeses zero qs y = refl
after_yeses (suc n) [] y = refl
after_yeses (suc n) ((b otherwise r) ∷ qs) y = rw y.0 (after_yeses n qs y.1)

-- a conjunction whose middle part is false
middle_no : (a b c : Bool) → b ≡ false → (a && (b && c)) ≡ false
middle_no true b c e = rw e refl
middle_no false b c e = refl

module _ (x : Call) where
  -- questions 1 to 9: of tables, buffer and supplement, of the message, of fields and record
  pub first_nine : take 9 (questions x)
      ≡ table_questions x ++ (message_questions x.request ++ take 2 (payload_questions (command_in x.request) (fields_in x.request) (record_in (command_in x.request) (fields_in x.request))))
  unfolding questions
  first_nine = refl

  -- a load, of which everything asked before question 10 is a yes, and whose card is not in form
  module _ (c : command_in x.request ≡ KL) (y : AllYes (take 9 (questions x))) (b : is_incoming (card_in (record_in KL (fields_in x.request))) ≡ false) where
    tenth_no : first_no (questions x) ≡ some BadForm
    unfolding questions key_in_form
    tenth_no =
        let r = record_in KL (fields_in x.request) in
        let n : key_in_form r ≡ false = middle_no (in_form HexSome (field bar 1 r)) (is_incoming (card_in r)) (in_form HexSome (field bar 3 r)) b in
        after_yeses 9 (questions x) y ∙ rw (c, n) refl

    -- is answered with the refusal of question 10, which changes no row,
    pub card_answer : answer_of x ≡ refused x BadForm
    unfolding answer_of
    card_answer = rw tenth_no refl

    pub card_refused : (answer_of x).outcome ≡ Refused BadForm
    unfolding refused
    card_refused = rw card_answer refl

    -- number 10
    pub card_number_lem : outcome_number (answer_of x).outcome ≡ 10
    card_number_lem = rw card_refused refl

-- SAMPLES. The cards of the samples that are not in form: KRN6 before KEN255, and KRN0; an SGN of 25 bytes, with a byte outside, twice, or out of place
abbrev pub bad_cards : List Sample → List (List ℕ)
bad_cards [] = []
bad_cards (sum s digits ∷ xs) = bad_cards xs
bad_cards (reads s v ∷ xs) = bad_cards xs
bad_cards (timestamp s b ∷ xs) = bad_cards xs
bad_cards (card s b ∷ xs) = cond b (bad_cards xs) (s ∷ bad_cards xs)
bad_cards (row s b ∷ xs) = bad_cards xs

-- every load of that card, of which everything asked before question 10 is a yes, is refused with 10
abbrev pub RefusedWith10 : List ℕ → Type 0
RefusedWith10 s =
    (x : Call) → command_in x.request ≡ KL → AllYes (take 9 (questions x)) → card_in (record_in KL (fields_in x.request)) ≡ s
    → ((answer_of x).outcome ≡ Refused BadForm) × (outcome_number (answer_of x).outcome ≡ 10)

abbrev pub EachRefused : List (List ℕ) → Type 0
EachRefused [] = Unit {0}
EachRefused (s ∷ ss) = RefusedWith10 s × EachRefused ss

bad_refused : (s : List ℕ) → is_incoming s ≡ false → RefusedWith10 s
bad_refused s h x c y e = let b = ap is_incoming e ∙ h in (card_refused x c y b, card_number_lem x c y b)

-- it follows of the samples that hold
each_bad : (xs : List Sample) → AllHold xs → EachRefused (bad_cards xs)
each_bad [] h = tt
each_bad (sum s digits ∷ xs) h = each_bad xs h.1
each_bad (reads s v ∷ xs) h = each_bad xs h.1
each_bad (timestamp s b ∷ xs) h = each_bad xs h.1
each_bad (row s b ∷ xs) h = each_bad xs h.1
each_bad (card s true ∷ xs) h = each_bad xs h.1
each_bad (card s false ∷ xs) h = (bad_refused s h.0, each_bad xs h.1)

pub each_refused : EachRefused (bad_cards samples)
each_refused = each_bad samples all_hold_lem

pub names_refused : EachRefused (bad_cards name_samples)
names_refused = each_bad name_samples names_hold

-- both of them, and six with an SGN
pub two_cards : length (bad_cards samples) ≡ 2
unfolding samples
two_cards = refl

pub six_names : length (bad_cards name_samples) ≡ 6
unfolding name_samples
six_names = refl
