-- What is done on a decision is what the answer says: outcome, response and rows.
use mathlib.Core.Path.{◌≡◌, refl, sym, ap, ◌∙◌}
use mathlib.Core.Bool.{false}
use mathlib.Core.List.{List, [], ◌∷◌}
use Prim.Native.Nat.{ℕ, ◌-◌, ◌<◌}
use lib.ListN.{length, get_or}
use Rattle.message_commands.specs.declared.Command.TheVariants.{KC, KR, KL, KF, KX, KQ}
use Rattle.field_values.specs.Values.{string}
use Rattle.message_frames.specs.Frames.{header_of}
use Rattle.message_replies.specs.Responses.{response_bytes}
use Rattle.row_types.specs.Places.{slot_rows, register_rows}
use Rattle.row_types.specs.Slots.{free_slot}
use Rattle.row_types.specs.Registers.{free_register}
use Rattle.row_types.specs.RowReplies.{stored_in, query_fields}
use Rattle.row_types.specs.declared.SlotRow.{SlotRow}
use Rattle.row_types.specs.declared.RegisterRow.{RegisterRow}
use Rattle.row_types.specs.declared.Supplement.{Supplement}
use Rattle.row_types.specs.declared.Tables.{Tables}
use Rattle.engine.specs.Requests.{fields_in, register_in, record_in, slot_in, card_in}
use Rattle.engine.specs.Questions.{Call, place_in, slot_place, session_place, slot_named, register_numbered}
use Rattle.engine.specs.Answers.{Answer, response, accepted, card_place, refused, answered, effect, answer_of}
use Rattle.engine.specs.Calls.{call_in}
use Rattle.engine.specs.Decisions.{decision_of}
use Rattle.engine.specs.declared.Decision.{Decision}
use Rattle.engine.specs.declared.Decision.TheVariants.{Refuse, Reset, Start, Open, Load, Close, DeleteSlot, DeleteKey, GetCard, ListSlots, QuerySlot}
use Rattle.engine.proofs.DecisionLaws.{command_for, is_refuse, refused_answer, granted_answer}
use Rattle.engine.proofs.Places.{filled_below}
use Rattle.response_requests.specs.Responding.{outcome_for, response_for}
use Rattle.entry_core.proofs.Front.{get_d_front}
use Rattle.entry_core.proofs.Asked.{asked_of, slot_below}

-- the answer of a decision that carries its command out
pub effect_of : (c : Call) (d : Decision) → decision_of c ≡ d → is_refuse d ≡ false → effect c (command_for d) (fields_in c.request) (record_in (command_for d) (fields_in c.request)) (slot_in (command_for d) (fields_in c.request)) ≡ answer_of c
effect_of c d e n = sym (granted_answer c d e n).answers

pub outcome_is : (c : Call) (d : Decision) → decision_of c ≡ d → outcome_for d ≡ (answer_of c).outcome
unfolding refused answered
outcome_is c (Refuse r) e = rw (refused_answer c r e) refl
outcome_is c Reset e = ap (λ (a : Answer). a.outcome) (effect_of c Reset e refl)
outcome_is c (Start k) e = ap (λ (a : Answer). a.outcome) (effect_of c (Start k) e refl)
outcome_is c (Open k) e = ap (λ (a : Answer). a.outcome) (effect_of c (Open k) e refl)
outcome_is c (Load k) e = ap (λ (a : Answer). a.outcome) (effect_of c (Load k) e refl)
outcome_is c (Close k) e = ap (λ (a : Answer). a.outcome) (effect_of c (Close k) e refl)
outcome_is c (DeleteSlot k) e = ap (λ (a : Answer). a.outcome) (effect_of c (DeleteSlot k) e refl)
outcome_is c (DeleteKey k) e = ap (λ (a : Answer). a.outcome) (effect_of c (DeleteKey k) e refl)
outcome_is c (GetCard k) e = ap (λ (a : Answer). a.outcome) (effect_of c (GetCard k) e refl)
outcome_is c ListSlots e = ap (λ (a : Answer). a.outcome) (effect_of c ListSlots e refl)
outcome_is c (QuerySlot k) e = ap (λ (a : Answer). a.outcome) (effect_of c (QuerySlot k) e refl)

-- the place that a decision names
abbrev place_for : Decision → ℕ
place_for (Refuse r) = 0
place_for Reset = 0
place_for (Start k) = k
place_for (Open k) = k
place_for (Load k) = k
place_for (Close k) = k
place_for (DeleteSlot k) = k
place_for (DeleteKey k) = k
place_for (GetCard k) = k
place_for ListSlots = 0
place_for (QuerySlot k) = k

-- is the place of the rows that the questions found
pub load_place : (c : Call) (k : ℕ) → decision_of c ≡ Load k → card_place (card_in (record_in KL (fields_in c.request))) c.registers ≡ k
load_place c k e = ap place_for (granted_answer c (Load k) e refl).grants

pub start_place : (c : Call) (k : ℕ) → decision_of c ≡ Start k → place_in c.slots (session_place (slot_in KC (fields_in c.request)) c.slots) ≡ k
start_place c k e = ap place_for (granted_answer c (Start k) e refl).grants

pub open_place : (c : Call) (k : ℕ) → decision_of c ≡ Open k → place_in c.slots (slot_place (slot_in KR (fields_in c.request)) c.slots) ≡ k
open_place c k e = ap place_for (granted_answer c (Open k) e refl).grants

pub close_place : (c : Call) (k : ℕ) → decision_of c ≡ Close k → place_in c.slots (slot_place (slot_in KF (fields_in c.request)) c.slots) ≡ k
close_place c k e = ap place_for (granted_answer c (Close k) e refl).grants

pub delete_slot_place : (c : Call) (k : ℕ) → decision_of c ≡ DeleteSlot k → place_in c.slots (slot_place (slot_in KX (fields_in c.request)) c.slots) ≡ k
delete_slot_place c k e = ap place_for (granted_answer c (DeleteSlot k) e refl).grants

pub delete_key_place : (c : Call) (k : ℕ) → decision_of c ≡ DeleteKey k → register_in (fields_in c.request) - 1 ≡ k
delete_key_place c k e = ap place_for (granted_answer c (DeleteKey k) e refl).grants

pub get_card_place : (c : Call) (k : ℕ) → decision_of c ≡ GetCard k → register_in (fields_in c.request) - 1 ≡ k
get_card_place c k e = ap place_for (granted_answer c (GetCard k) e refl).grants

pub query_slot_place : (c : Call) (k : ℕ) → decision_of c ≡ QuerySlot k → place_in c.slots (slot_place (slot_in KQ (fields_in c.request)) c.slots) ≡ k
query_slot_place c k e = ap place_for (granted_answer c (QuerySlot k) e refl).grants

-- the response, over tables by value
module _ (t : Tables) (x : Supplement) (q : List ℕ) (room : ℕ) where
  abbrev k₀ : Call
  k₀ = call_in t x q room

  shown : (k : ℕ) → decision_of k₀ ≡ GetCard k → get_or t.registers k free_register ≡ register_numbered (register_in (fields_in q)) (register_rows t)
  shown k e =
      let w = get_card_place k₀ k e in
      let h : k < length (register_rows t) = rw (← w) (filled_below (register_in (fields_in q)) (register_rows t) (asked_of k₀ (GetCard k) e refl).filled) in
      rw w (get_d_front t.register_count t.registers k free_register h)

  queried : (k : ℕ) → decision_of k₀ ≡ QuerySlot k → get_or t.slots k free_slot ≡ slot_named (slot_in KQ (fields_in q)) (slot_rows t)
  unfolding slot_named
  queried k e =
      let w = query_slot_place k₀ k e in
      let h : k < length (slot_rows t) = rw (← w) (slot_below (slot_in KQ (fields_in q)) (slot_rows t) (asked_of k₀ (QuerySlot k) e refl).known) in
      rw w (get_d_front t.slot_count t.slots k free_slot h)

  pub response_is : (d : Decision) → decision_of k₀ ≡ d → response_for d t x q ≡ response (answer_of k₀)
  unfolding refused answered record_in slot_in
  response_is (Refuse r) e = rw (refused_answer k₀ r e) refl
  response_is Reset e = ap response (effect_of k₀ Reset e refl)
  response_is (Start k) e = ap response (effect_of k₀ (Start k) e refl)
  response_is (Open k) e = ap response (effect_of k₀ (Open k) e refl)
  response_is (Load k) e = rw (load_place k₀ k e) at (ap response (effect_of k₀ (Load k) e refl))
  response_is (Close k) e = ap response (effect_of k₀ (Close k) e refl)
  response_is (DeleteSlot k) e = ap response (effect_of k₀ (DeleteSlot k) e refl)
  response_is (DeleteKey k) e = ap response (effect_of k₀ (DeleteKey k) e refl)
  response_is (GetCard k) e = ap (λ (r : RegisterRow). response_bytes (header_of q) accepted (string (stored_in r) ∷ [])) (shown k e) ∙ ap response (effect_of k₀ (GetCard k) e refl)
  response_is ListSlots e = ap response (effect_of k₀ ListSlots e refl)
  response_is (QuerySlot k) e = ap (λ (r : SlotRow). response_bytes (header_of q) accepted (query_fields r (register_rows t))) (queried k e) ∙ ap response (effect_of k₀ (QuerySlot k) e refl)
