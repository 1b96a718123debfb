-- The decision for each command as its own questions, in turn: what a command is not asked is a yes.
use mathlib.Core.Path.{◌≡◌, refl, sym}
use mathlib.Core.Bool.{true, false, and-true}
use mathlib.Core.List.{List, []}
use Prim.Native.Nat.{ℕ, ◌-◌}
use Rattle.field_values.specs.Values.{Value}
use Rattle.record_identities.specs.Identities.{name_in}
use Rattle.record_types.specs.KeyRecords.{parses_public_key, public_key_in_form, parses_response, response_in_form}
use Rattle.message_commands.specs.declared.Command.{Command}
use Rattle.message_commands.specs.declared.Command.TheVariants.{RS, KC, KR, KL, KF, KX, KD, GA, GL, KQ}
use Rattle.row_types.specs.Slots.{has_state}
use Rattle.row_types.specs.declared.SlotState.TheVariants.{Pending, Loading}
use Rattle.engine.specs.Requests.{are_fields_of, first_text, second_text, register_in, record_in, slot_in, kmc_identity_in, card_in}
use Rattle.engine.specs.Questions.{Call, slot_place, session_place, place_in, slot_named, first_no}
use Rattle.engine.specs.Answers.{card_place}
use Rattle.engine.specs.Decisions.{decided, decision_for}
use Rattle.engine.specs.declared.Refusal.TheVariants.{BadFields}
use Rattle.engine.specs.declared.Decision.TheVariants.{Refuse, Reset, Start, Open, Load, Close, DeleteSlot, DeleteKey, GetCard, ListSlots, QuerySlot}
use Rattle.decide_questions.specs.CommandQuestions.{plain_questions, slot_questions, session_questions, register_questions, start_questions, open_questions, load_questions, slot_asked, register_asked, done_at}
use Rattle.decide_questions.proofs.Asking.{asked_apart}
use Rattle.decide_payloads.proofs.PayloadLaws.{text_fields}

-- fields of another command are refused, whatever the command
pub fields_refused : (x : Call) (c : Command) (vs : List Value) → are_fields_of c vs ≡ false → Refuse BadFields ≡ decision_for x c vs
unfolding decision_for
fields_refused x c vs e = sym (rw e)

module _ (c : Call) (vs : List Value) where
  -- no field
  pub reset_is : decided (first_no (plain_questions vs)) Reset ≡ decision_for c RS vs
  unfolding decision_for
  reset_is = refl

  pub list_slots_is : decided (first_no (plain_questions vs)) ListSlots ≡ decision_for c GL vs
  unfolding decision_for are_fields_of
  list_slots_is = refl

  -- a slot
  abbrev place : ℕ
  place = place_in c.slots (slot_place (first_text vs) c.slots)

  pub delete_slot_is : done_at DeleteSlot (slot_asked c.slots vs) ≡ decision_for c KX vs
  unfolding decision_for slot_in are_fields_of slot_asked
  delete_slot_is = asked_apart (slot_questions c.slots vs) [] DeleteSlot place

  pub query_slot_is : done_at QuerySlot (slot_asked c.slots vs) ≡ decision_for c KQ vs
  unfolding decision_for slot_in are_fields_of slot_asked
  query_slot_is = asked_apart (slot_questions c.slots vs) [] QuerySlot place

  pub close_is : done_at (λ (k : ℕ). decided (first_no (session_questions (slot_named (first_text vs) c.slots))) (Close k)) (slot_asked c.slots vs) ≡ decision_for c KF vs
  unfolding decision_for slot_in slot_asked
  close_is = asked_apart (slot_questions c.slots vs) (session_questions (slot_named (first_text vs) c.slots)) Close place

  -- a register
  pub delete_key_is : done_at DeleteKey (register_asked c.registers vs) ≡ decision_for c KD vs
  unfolding decision_for register_asked
  delete_key_is = asked_apart (register_questions c.registers vs) [] DeleteKey (register_in vs - 1)

  pub get_card_is : done_at GetCard (register_asked c.registers vs) ≡ decision_for c GA vs
  unfolding decision_for are_fields_of register_asked
  get_card_is = asked_apart (register_questions c.registers vs) [] GetCard (register_in vs - 1)

  -- a record
  module _ (r : List ℕ) (f : are_fields_of KF vs ≡ true) (q : r ≡ first_text vs) where
    pub start_is : decided (first_no (start_questions c.slots c.supplement r)) (Start (place_in c.slots (session_place (name_in (kmc_identity_in r)) c.slots))) ≡ decision_for c KC vs
    unfolding decision_for record_in slot_in
    start_is = sym (rw (text_fields KC vs refl, f, ← q, and-true (parses_public_key r), and-true (public_key_in_form r)) refl)

    pub open_is : decided (first_no (open_questions c.slots c.supplement r (slot_named (name_in (kmc_identity_in r)) c.slots))) (Open (place_in c.slots (slot_place (name_in (kmc_identity_in r)) c.slots))) ≡ decision_for c KR vs
    unfolding decision_for record_in slot_in
    open_is = sym (rw (text_fields KR vs refl, f, ← q, and-true (parses_response r), and-true (response_in_form r), and-true (has_state Pending (slot_named (name_in (kmc_identity_in r)) c.slots))) refl)

  -- a slot and a record
  pub load_is : (s r : List ℕ) → are_fields_of KL vs ≡ true → s ≡ first_text vs → r ≡ second_text vs
      → decided (first_no (load_questions c.slots c.registers c.supplement s r (slot_named s c.slots))) (Load (card_place (card_in r) c.registers)) ≡ decision_for c KL vs
  unfolding decision_for record_in slot_in
  load_is s r f p q = sym (rw (f, ← p, ← q, and-true (has_state Loading (slot_named s c.slots))) refl)
