-- The outcome and the response of a decision (document 01, Slots and registers, Questions in order): t are the
-- tables, x the supplement, q the request, k the place of a row, counted from 0.
use Rattle.std.specs.Prelude.{ℕ, ◌+◌, ◌≤◌, ◌<◌, ◌≡◌, List, [], ◌∷◌, length, get_or, take}
use Rattle.field_values.specs.Values.{Value, number, string}
use Rattle.message_frames.specs.Frames.{header_of, payload_of}
use Rattle.message_replies.specs.Responses.{response_bytes}
use Rattle.row_types.specs.Supplements.{load_request}
use Rattle.row_types.specs.Slots.{free_slot}
use Rattle.row_types.specs.Slots as slot
use Rattle.row_types.specs.Registers.{free_register}
use Rattle.row_types.specs.Places.{slot_rows, register_rows}
use Rattle.row_types.specs.RowReplies.{stored_in, slot_names, name_fields, query_fields}
use Rattle.row_types.specs.declared.Supplement.{Supplement}
use Rattle.row_types.specs.declared.Tables.{Tables}
use Rattle.row_types.specs.declared.SlotState.TheVariants.{Free, Pending, Loading, Idle}
use Rattle.row_index.specs.Found.{AreOwnedBy}
use Rattle.engine.specs.Refusals.{refusal}
use Rattle.engine.specs.Requests.{fields_in}
use Rattle.engine.specs.Answers.{accepted, response_of, refusal_reply}
use Rattle.engine.specs.declared.Decision.{Decision}
use Rattle.engine.specs.declared.Decision.TheVariants.{Refuse, Reset, Start, Open, Load, Close}
use Rattle.engine.specs.declared.Decision.TheVariants.{DeleteSlot, DeleteKey, GetCard, ListSlots, QuerySlot}
use Rattle.engine.specs.declared.Outcome.{Outcome}
use Rattle.engine.specs.declared.Outcome.TheVariants.{Accepted, Done, Refused}
use Rattle.decide_parts.specs.Parts.{kmcid_of, card_of, HasParts}
use Rattle.decide_parts.specs.declared.Parts.{Parts}
use Rattle.response_refusals.specs.RefusalForms.{CanRefuse}

-- an accepted session command's answer carries the slot state that it leaves; session commands are KC, KR, KL, KF, KX
abbrev pub outcome_for : Decision → Outcome
outcome_for (Refuse r) = Refused r
outcome_for Reset = Done  -- GL?RS
outcome_for (Start k) = Accepted Pending  -- SM?KC
outcome_for (Open k) = Accepted Loading  -- SM?KR
outcome_for (Load k) = Accepted Loading  -- SM?KL
outcome_for (Close k) = Accepted Idle  -- SM?KF
outcome_for (DeleteSlot k) = Accepted Free  -- SM?KX
outcome_for (DeleteKey k) = Done  -- SM?KD
outcome_for (GetCard k) = Done  -- SM?GA
outcome_for ListSlots = Done  -- SM?GL
outcome_for (QuerySlot k) = Done  -- SM?KQ

-- the fields of the response to an accepted request, as the clause of 001 that is named has them
abbrev pub fields_for : Decision → Tables → Supplement → List ℕ → List Value
fields_for (Refuse r) t x q = []  -- not accepted
fields_for Reset t x q = []  -- RS 6.2.7
fields_for (Start k) t x q = string (kmcid_of (fields_in q)) ∷ string (load_request x) ∷ []  -- KC 6.3.3
fields_for (Open k) t x q = string (kmcid_of (fields_in q)) ∷ []  -- KR document 01: "the slot"
fields_for (Load k) t x q = number (k + 1) ∷ string (card_of x (fields_in q)) ∷ []  -- KL 6.3.5
fields_for (Close k) t x q = []  -- KF 6.3.6
fields_for (DeleteSlot k) t x q = []  -- KX 6.3.7
fields_for (DeleteKey k) t x q = []  -- KD 6.3.9
fields_for (GetCard k) t x q = string (stored_in (get_or t.registers k free_register)) ∷ []  -- GA 6.3.8
fields_for ListSlots t x q = name_fields (slot_names (slot_rows t))  -- GL 6.3.1
fields_for (QuerySlot k) t x q = query_fields (get_or t.slots k free_slot) (register_rows t)  -- KQ 6.3.2

-- the response by its outcome: that of a refusal; else status 00 and the fields
abbrev pub response_with : Outcome → List Value → List ℕ → List ℕ
response_with (Refused r) fields q = response_of (refusal_reply q r)
response_with (Accepted s) fields q = response_bytes (header_of q) accepted fields
response_with Done fields q = response_bytes (header_of q) accepted fields

abbrev pub response_for : Decision → Tables → Supplement → List ℕ → List ℕ
response_for d t x q = response_with (outcome_for d) (fields_for d t x q) q

-- a request of n bytes, and room for every response
abbrev pub HasRoom : ℕ → ℕ → Type 0
HasRoom n room = (10 ≤ n) × (1024 ≤ room)

-- the owners have the slot's number just at the registers under it
abbrev pub KnowsRegisters : ℕ → Tables → List ℕ → Type 0
KnowsRegisters k t owners =
    AreOwnedBy (k + 1) (slot.kmcid_of (get_or t.slots k free_slot)) (take t.register_count owners) (register_rows t)

-- what makes the response fit, p being the parts that the decision was made of, and t the tables with the registers
-- after it, so that SM?KL's card stands in its row; it is known of each decision
abbrev pub CanRespond : Decision → Parts → Tables → List ℕ → Supplement → List ℕ → ℕ → Type 0
CanRespond (Refuse r) p t owners x q room = CanRefuse (refusal r).header (length q) room
CanRespond Reset p t owners x q room = HasRoom (length q) room
CanRespond (Start k) p t owners x q room =
    HasRoom (length q) room
    × (HasParts (Start k) p (payload_of q)
    × ((length (kmcid_of (fields_in q)) ≤ 40)
    × (x.request_length ≤ 700)))
CanRespond (Open k) p t owners x q room =
    HasRoom (length q) room
    × (HasParts (Open k) p (payload_of q)
    × (length (kmcid_of (fields_in q)) ≤ 40))
CanRespond (Load k) p t owners x q room =
    HasRoom (length q) room
    × ((stored_in (get_or t.registers k free_register) ≡ card_of x (fields_in q))
    × (k < 32))
CanRespond (Close k) p t owners x q room = HasRoom (length q) room
CanRespond (DeleteSlot k) p t owners x q room = HasRoom (length q) room
CanRespond (DeleteKey k) p t owners x q room = HasRoom (length q) room
CanRespond (GetCard k) p t owners x q room = HasRoom (length q) room × (k < 32)
CanRespond ListSlots p t owners x q room = HasRoom (length q) room × (t.slot_count ≤ 8)
CanRespond (QuerySlot k) p t owners x q room =
    HasRoom (length q) room
    × ((k < 8)
    × ((t.register_count ≤ 32)
    × KnowsRegisters k t owners))
