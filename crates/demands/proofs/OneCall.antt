-- Demands 1 and 2 follow from what `diminurel_handle` promises of a call.
use Prim.Native.Nat.{ℕ, ◌≤◌}
use mathlib.Core.Path.{◌≡◌, refl, sym, ap, subst, ◌∙◌}
use mathlib.Core.Logic.{◌≢◌}
use mathlib.Core.Bool.{true}
use mathlib.Core.List.{List, []}
use mathlib.Core.Option.{Option, none, some}
use lib.ListN.{length, take, drop}
use native.Mathlib.Omega.{arith}
use lib.Seq.{take_at, drop_at}
use borrow.Author.Tests.{eqb-true}
use Rattle.byte_strings.proofs.Flags.{nope}
use Rattle.message_replies.specs.Responses.{Reply, Says}
use Rattle.row_types.specs.Slots.{state_number}
use Rattle.row_types.specs.declared.SlotState.{SlotState}
use Rattle.row_types.specs.declared.SlotState.TheVariants.{Free, Pending, Loading, Idle}
use Rattle.engine.specs.Refusals.{refusal}
use Rattle.engine.specs.Requests.{command_in}
use Rattle.engine.specs.Questions.{Call, slot_named, questions, first_no}
use Rattle.engine.specs.Answers.{response, response_of, buffer_after, refusal_reply, refused, answer_of}
use Rattle.engine.specs.Outcomes.{outcome_number}
use Rattle.engine.specs.Words.{Lent, call_of}
use Rattle.engine.specs.declared.Refusal.{Refusal}
use Rattle.engine.specs.declared.Outcome.{Outcome}
use Rattle.engine.specs.declared.Outcome.TheVariants.{Accepted, Done, Refused}
use Rattle.engine.proofs.QuestionLaws.{all_yes}
use Rattle.engine.proofs.ReadsBack.{reads_back}
use Rattle.engine.proofs.SlotStates.{is_session, state_left, state_carried}
use Rattle.engine.proofs.AnswerLaws.{first_no_decides, refused_by, refused_keeps, no_reply_exactly}
use Rattle.engine.proofs.Numbers.{one_number_lem, number_range, answer_zero, answer_within}
use Rattle.entry_contracts.specs.Numbers.{state_byte}
use Rattle.entry_contracts.specs.Handles.{Run, Handles, input_in}
use Rattle.demands.specs.Demands.{response_in, SaysReply, slot_name_in, Demand1, Demand2}

-- a state's number is not 255
state_known : (a : SlotState) → state_number a ≢ 255
state_known Free z = omega arith
state_known Pending z = omega arith
state_known Loading z = omega arith
state_known Idle z = omega arith

module _ (rows : Lent) (run : Run) (left : Lent) (h : Handles rows run left) where
  abbrev call : Call
  call = call_of rows (input_in run)

  abbrev bytes : List ℕ
  bytes = response (answer_of call)

  size_is : run.size ≡ length bytes
  size_is = h.written.0

  after_is : run.after ≡ buffer_after bytes run.before
  after_is = h.written.1

  -- what is read of the buffer is the response, and what lies beyond is as before
  pub response_is : response_in run ≡ bytes
  response_is = (λ j. take (size_is j) (after_is j)) ∙ take_at bytes (drop (length bytes) run.before) (length bytes) refl

  rest_is : drop run.size run.after ≡ drop run.size run.before
  rest_is = (λ j. drop (size_is j) (after_is j)) ∙ drop_at bytes (drop (length bytes) run.before) (length bytes) refl ∙ ap (λ (n : ℕ). drop n run.before) (sym size_is)

  says : SaysReply (response_in run) (answer_of call).reply
  says = subst (λ (s : List ℕ). SaysReply s (answer_of call).reply) (sym response_is) (go (answer_of call).reply refl)
    where
      go : (o : Option Reply) → (answer_of call).reply ≡ o → SaysReply (response_of o) o
      go none e = refl
      go (some r) e = subst (λ (o : Option Reply). Says (response_of o) r) e (reads_back call refl refl r e)

  -- a refusal's number is that of its outcome alone
  numbered : (r : Refusal) → run.outcome ≡ (refusal r).number → (answer_of call).outcome ≡ Refused r
  numbered r e = go (answer_of call).outcome refl
    where
      none_is : 0 ≡ (refusal r).number → ⊥
      none_is z = omega (arith, z, (number_range r).0)

      go : (o : Outcome) → (answer_of call).outcome ≡ o → o ≡ Refused r
      go (Accepted a) w = absurd (none_is (sym (ap outcome_number w) ∙ sym h.outcome_is ∙ e))
      go Done w = absurd (none_is (sym (ap outcome_number w) ∙ sym h.outcome_is ∙ e))
      go (Refused q) w = ap Refused (one_number_lem q r (sym (ap outcome_number w) ∙ sym h.outcome_is ∙ e))

  refusal_is : (r : Refusal) → first_no (questions call) ≡ some r → (answer_of call).reply ≡ refusal_reply run.request r
  unfolding answer_of refused
  refusal_is r e = rw e refl

  kept : run.outcome ≢ 0 → left ≡ rows
  kept n = go (answer_of call).outcome refl
    where
      go : (o : Outcome) → (answer_of call).outcome ≡ o → left ≡ rows
      go (Accepted a) e = absurd (n (h.outcome_is ∙ ap outcome_number e))
      go Done e = absurd (n (h.outcome_is ∙ ap outcome_number e))
      go (Refused q) e = let k = refused_keeps call q e in λ j. record { slots = (h.slots_are ∙ k.0) j; registers = (h.registers_are ∙ k.1) j }

  none_written : 1 ≤ run.outcome → run.outcome ≤ 4 → bytes ≡ []
  none_written l m = ap response_of ((no_reply_exactly call).1 (subst (λ (n : ℕ). (1 ≤ n) × (n ≤ 4)) h.outcome_is (l, m)))

  pub demand1 : Demand1 rows run left
  demand1 = record {
    ends = subst (λ (n : ℕ). n ≤ 21) (sym h.outcome_is) (answer_within call);
    keeps = kept;
    unwritten = λ l m. (size_is ∙ ap length (none_written l m), after_is ∙ ap (λ (s : List ℕ). buffer_after s run.before) (none_written l m));
    refused = λ r e. subst (SaysReply (response_in run)) (refusal_is r (refused_by call r (numbered r e))) says;
    fits = h.fits;
    beyond = rest_is;
  }

  pub first_yes : run.outcome ≡ 0 → first_no (questions call) ≡ none
  first_yes z = go (first_no (questions call)) refl
    where
      go : (o : Option Refusal) → first_no (questions call) ≡ o → o ≡ none
      go none e = refl
      go (some r) e = absurd (let w : 0 ≡ (refusal r).number = sym z ∙ h.outcome_is ∙ ap outcome_number (first_no_decides call r e) in omega (arith, w, (number_range r).0))

  -- the state that is answered: none but where the outcome carries one
  states : (o : Outcome) → (answer_of call).outcome ≡ o → run.state ≡ state_byte o
  states o e = h.state_is ∙ ap state_byte e

  is_session_lem : run.state ≢ 255 → (run.outcome ≡ 0) × (is_session (command_in run.request) ≡ true)
  is_session_lem n = go (answer_of call).outcome refl
    where
      go : (o : Outcome) → (answer_of call).outcome ≡ o → (run.outcome ≡ 0) × (is_session (command_in run.request) ≡ true)
      go (Accepted a) e =
          let w = rw e at (state_carried call) in
          (h.outcome_is ∙ ap outcome_number e, sym w)
      go Done e = absurd (n (states Done e))
      go (Refused q) e = absurd (n (states (Refused q) e))

  session_is : (run.outcome ≡ 0) × (is_session (command_in run.request) ≡ true) → run.state ≢ 255
  session_is y z = go (answer_of call).outcome refl
    where
      go : (o : Outcome) → (answer_of call).outcome ≡ o → ⊥
      go (Accepted a) e = state_known a (sym (states (Accepted a) e) ∙ z)
      go Done e = let w = rw e at (state_carried call) in let i = y.1 in nope (cc)
      go (Refused q) e = let w : (refusal q).number ≡ 0 = sym (ap outcome_number e) ∙ sym h.outcome_is ∙ y.0 in omega (arith, w, (number_range q).0)

  left_state : run.state ≢ 255 → run.state ≡ (slot_named (slot_name_in run) left.slots).state
  left_state n = go (answer_of call).outcome refl
    where
      go : (o : Outcome) → (answer_of call).outcome ≡ o → run.state ≡ (slot_named (slot_name_in run) left.slots).state
      go (Accepted a) e =
          let w = state_left call a e in
          states (Accepted a) e ∙ sym (eqb-true _ (state_number a) (rw h.slots_are w))
      go Done e = absurd (n (states Done e))
      go (Refused q) e = absurd (n (states (Refused q) e))

  pub demand2 : Demand2 rows run left
  demand2 = record {
    accepted = (first_yes, λ e. h.outcome_is ∙ (answer_zero call).1 (all_yes (questions call) e));
    refused = λ r. (λ e. refused_by call r (numbered r e), λ e. h.outcome_is ∙ ap outcome_number (first_no_decides call r e));
    replied = says;
    session = (is_session_lem, session_is);
    state_left = left_state;
  }
