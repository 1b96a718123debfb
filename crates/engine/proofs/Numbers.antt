-- The twenty-one refusals in a list: their numbers are 1 to 21, no two have one number, and 0 is the number of acceptance.
use mathlib.Core.Path.{◌≡◌, refl, sym, ap, ◌∙◌}
use mathlib.Core.Logic.{◌↔◌}
use mathlib.Core.Bool.{Bool, true, ◌&&◌}
use mathlib.Core.List.{List, [], ◌∷◌, map}
use Prim.Native.Nat.{ℕ, ◌-◌, ◌≤◌}
use native.Mathlib.Omega.{arith}
use lib.Dec.{leb}
use lib.ListN.{get_or}
use borrow.Author.Tests.{leb-true}
use Rattle.byte_strings.proofs.Flags.{nope, and_first, and_second}
use Rattle.row_types.specs.Lists.{every_row}
use Rattle.row_types.proofs.ListLaws.{every_at}
use Rattle.engine.specs.Refusals.{refusal}
use Rattle.engine.specs.Questions.{Call, questions}
use Rattle.engine.specs.Answers.{answer_of}
use Rattle.engine.specs.Outcomes.{outcome_number}
use Rattle.engine.specs.declared.Refusal.{Refusal}
use Rattle.engine.specs.declared.Refusal.TheVariants.{RowCounts, ShortBuffer, UnsoundRows, BadSupplement, BadFrame, BadChecksum, UnknownHeader, BadFields, BadRecord, BadForm, Expired, UnknownSlot, NoFreeSlot, WrongState, OtherModule, OtherFingerprint, OtherTvp, OtherTag, CheckFailed, NoFreeRegister, EmptyRegister}
use Rattle.engine.specs.declared.Outcome.{Outcome}
use Rattle.engine.specs.declared.Outcome.TheVariants.{Accepted, Done, Refused}
use Rattle.engine.proofs.QuestionLaws.{AllYes}
use Rattle.engine.proofs.AnswerLaws.{is_yes, accepted_exactly}

abbrev pub number_of : Refusal → ℕ
number_of r = (refusal r).number

-- all of them, in the order of the questions
abbrev pub refusals : List Refusal
refusals = RowCounts ∷ ShortBuffer ∷ UnsoundRows ∷ BadSupplement ∷ BadFrame ∷ BadChecksum ∷ UnknownHeader ∷ BadFields ∷ BadRecord ∷ BadForm ∷ Expired ∷ UnknownSlot ∷ NoFreeSlot ∷ WrongState ∷ OtherModule ∷ OtherFingerprint ∷ OtherTvp ∷ OtherTag ∷ CheckFailed ∷ NoFreeRegister ∷ EmptyRegister ∷ []

-- their numbers in that order
pub numbers : map number_of refusals ≡ 1 ∷ 2 ∷ 3 ∷ 4 ∷ 5 ∷ 6 ∷ 7 ∷ 8 ∷ 9 ∷ 10 ∷ 11 ∷ 12 ∷ 13 ∷ 14 ∷ 15 ∷ 16 ∷ 17 ∷ 18 ∷ 19 ∷ 20 ∷ 21 ∷ []
numbers = refl

-- each stands in the list at its number
pub at_number : (r : Refusal) → get_or refusals (number_of r - 1) RowCounts ≡ r
at_number RowCounts = refl
at_number ShortBuffer = refl
at_number UnsoundRows = refl
at_number BadSupplement = refl
at_number BadFrame = refl
at_number BadChecksum = refl
at_number UnknownHeader = refl
at_number BadFields = refl
at_number BadRecord = refl
at_number BadForm = refl
at_number Expired = refl
at_number UnknownSlot = refl
at_number NoFreeSlot = refl
at_number WrongState = refl
at_number OtherModule = refl
at_number OtherFingerprint = refl
at_number OtherTvp = refl
at_number OtherTag = refl
at_number CheckFailed = refl
at_number NoFreeRegister = refl
at_number EmptyRegister = refl

-- what a test finds of the list holds of every refusal
pub every_refusal : (f : Refusal → Bool) → every_row f refusals ≡ true → (r : Refusal) → f r ≡ true
every_refusal f h r = rw (at_number r) at (every_at f RowCounts (and_first (f RowCounts) _ h) refusals h (number_of r - 1))

-- 1 to 21
pub number_range : (r : Refusal) → (1 ≤ number_of r) × (number_of r ≤ 21)
number_range r =
    let e = every_refusal (λ (q : Refusal). leb 1 (number_of q) && leb (number_of q) 21) refl r in
    (leb-true 1 (number_of r) (and_first (leb 1 (number_of r)) (leb (number_of r) 21) e), leb-true (number_of r) 21 (and_second (leb 1 (number_of r)) (leb (number_of r) 21) e))

-- different refusals have different numbers
pub one_number_lem : (q r : Refusal) → number_of q ≡ number_of r → q ≡ r
one_number_lem q r e = sym (at_number q) ∙ ap (λ (n : ℕ). get_or refusals (n - 1) RowCounts) e ∙ at_number r

-- 0 exactly where the outcome is acceptance
pub zero_exactly : (o : Outcome) → (outcome_number o ≡ 0) ↔ (is_yes o ≡ true)
zero_exactly (Accepted a) = (λ e. refl, λ e. refl)
zero_exactly Done = (λ e. refl, λ e. refl)
zero_exactly (Refused r) = (λ e. absurd (omega (arith, (number_range r).0)), λ e. nope (cc))

-- so an answer's number is 0 exactly when every question is a yes,
pub answer_zero : (x : Call) → (outcome_number (answer_of x).outcome ≡ 0) ↔ AllYes (questions x)
answer_zero x =
    let z = zero_exactly (answer_of x).outcome in
    let y = accepted_exactly x in
    (λ e. y.0 (z.0 e), λ a. z.1 (y.1 a))

-- and no answer has a number past 21
pub answer_within : (x : Call) → outcome_number (answer_of x).outcome ≤ 21
answer_within x = go (answer_of x).outcome
  where
    go : (o : Outcome) → outcome_number o ≤ 21
    go (Accepted a) = omega arith
    go Done = omega arith
    go (Refused r) = (number_range r).1
