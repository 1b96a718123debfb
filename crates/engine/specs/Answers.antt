-- The answer to a call: outcome, reply and all rows after it (document 01, Slots and registers, Questions in order).
use Rattle.std.specs.Prelude.{ℕ, ◌+◌, ◌-◌, ◌≡◌, List, [], ◌∷◌, ◌++◌, map, length, set, drop}
use Rattle.std.proofs.Math.Option.{Option, none, some}
use Rattle.byte_strings.specs.Texts.{text}
use Rattle.field_values.specs.Values.{Value, number, string}
use Rattle.message_frames.specs.Frames.{header_of}
use Rattle.message_replies.specs.Responses.{Reply, reply_bytes, reply_to}
use Rattle.record_identities.specs.Identities.{fingerprint_in}
use Rattle.card_stored.specs.Stored.{load_values, stored_card}
use Rattle.message_commands.specs.declared.Command.{Command}
use Rattle.message_commands.specs.declared.Command.TheVariants.{RS, KC, KR, KL, KF, KX, KD, GA, GL, KQ, Unknown}
use Rattle.row_types.specs.Slots.{free_slot, filled_slot, moved_slot, reset_slot}
use Rattle.row_types.specs.Registers.{free_register, filled_register, without_slot, closed_row, closed_under}
use Rattle.row_types.specs.RowReplies.{stored_in, slot_names, name_fields, query_fields}
use Rattle.row_types.specs.Supplements.{load_request}
use Rattle.row_types.specs.declared.SlotRow.{SlotRow}
use Rattle.row_types.specs.declared.RegisterRow.{RegisterRow}
use Rattle.row_types.specs.declared.SlotState.{SlotState}
use Rattle.row_types.specs.declared.SlotState.TheVariants.{Free, Pending, Loading, Idle}
use Rattle.engine.specs.Refusals.{Header, general, own, RefusalEntry, refusal}
use Rattle.engine.specs.Requests.{command_in, fields_in, register_in, record_in, kmc_identity_in, slot_in, card_in}
use Rattle.engine.specs.Questions.{Call, slot_place, place_in, session_place, store_place, slot_named}
use Rattle.engine.specs.Questions.{register_numbered, group_in, revision_in, questions, first_no}
use Rattle.engine.specs.declared.Refusal.{Refusal}
use Rattle.engine.specs.declared.Outcome.{Outcome}
use Rattle.engine.specs.declared.Outcome.TheVariants.{Accepted, Done, Refused}

-- outcome, reply (none where nothing is written), and all rows after it
pub record Answer : Type 0 where
  pub outcome : Outcome
  pub reply : Option Reply
  pub slots : List SlotRow
  pub registers : List RegisterRow

-- the bytes of a reply; none where there is none
abbrev pub response_of : Option Reply → List ℕ
response_of none = []
response_of (some r) = reply_bytes r

-- the response: its reply's bytes
abbrev pub response : Answer → List ℕ
response a = response_of a.reply

-- the response buffer afterwards: bytes beyond the response keep their value
abbrev pub buffer_after : List ℕ → List ℕ → List ℕ
buffer_after bytes buffer = bytes ++ drop (length bytes) buffer

-- an answer is responded: the length of its response, and the buffer before and after it
abbrev pub Responded : Answer → List ℕ → ℕ → List ℕ → Type 0
Responded a before size after = (size ≡ length (response a)) × (after ≡ buffer_after (response a) before)

abbrev pub error_header : List ℕ
error_header = text "GL!ER"

abbrev pub accepted : List ℕ
accepted = text "00"

-- a slot in another state, TVP cleared
abbrev pub slots_moved : SlotState → List ℕ → List SlotRow → List SlotRow
slots_moved a s rows = set rows (place_in rows (slot_place s rows)) (moved_slot a (slot_named s rows))

-- SM?KC: the slot of that KMCID, else the lowest free row, becomes PENDING with the record's fingerprint and the clock
-- as TVP
unfoldable pub slots_pending : List ℕ → List ℕ → List ℕ → List SlotRow → List SlotRow
slots_pending s fingerprint clock rows =
    set rows (place_in rows (session_place s rows)) (filled_slot Pending s fingerprint clock)

-- SM?KX: the row of the slot becomes free
unfoldable pub slots_without : List ℕ → List SlotRow → List SlotRow
slots_without s rows = set rows (place_in rows (slot_place s rows)) free_slot

-- the card that SM?KL stores of an incoming one, with the check value, in the slot s
unfoldable pub loaded_card : List ℕ → List ℕ → List ℕ → List ℕ
loaded_card card check s = stored_card card (load_values check s)

-- where SM?KL stores the key of a card
unfoldable pub card_place : List ℕ → List RegisterRow → ℕ
card_place card rows = place_in rows (store_place (group_in card) (revision_in card) rows)

-- the reply to a refused request: for refusals 5 to 7 the header GL!ER stands in place of the request's own
abbrev pub reply_under : List ℕ → Option Header → RefusalEntry → Option Reply
reply_under request none e = none
reply_under request (some general) e = some (record { header = error_header; status = e.status; fields = e.fields })
reply_under request (some own) e = some (reply_to (header_of request) e.status e.fields)

abbrev pub refusal_reply : List ℕ → Refusal → Option Reply
refusal_reply request r = reply_under request (refusal r).header (refusal r)

-- a refusal changes no row
unfoldable pub refused : Call → Refusal → Answer
refused x r = record {
  outcome = Refused r;
  reply = refusal_reply x.request r;
  slots = x.slots;
  registers = x.registers;
}

-- an accepted answer: its outcome, its fields, and the rows after it
unfoldable pub answered : Call → Outcome → List Value → List SlotRow → List RegisterRow → Answer
answered x o fields slots registers = record {
  outcome = o;
  reply = some (reply_to (header_of x.request) accepted fields);
  slots = slots;
  registers = registers;
}

-- what each command does (document 01, Slots and registers; the clauses are 001's): vs are its fields, r the record
-- among them, s the slot that it names
abbrev pub effect : Call → Command → List Value → List ℕ → List ℕ → Answer
-- GL?RS, 6.2.7, resets: PENDING and LOADING become IDLE, and every key is closed (document 02, N3)
effect x RS vs r s = answered x Done [] (map reset_slot x.slots) (map closed_row x.registers)
-- SM?KC, 6.3.3, starts a session: the slot becomes PENDING, its keys stay, with their marks (document 02, N3); slot and
-- load request are replied
effect x KC vs r s =
    answered x (Accepted Pending) (string s ∷ string (load_request x.supplement) ∷ [])
    (slots_pending s (fingerprint_in (kmc_identity_in r)) x.supplement.clock x.slots) x.registers
-- SM?KR, 6.3.4, opens it: PENDING becomes LOADING, TVP cleared; the slot is replied
effect x KR vs r s = answered x (Accepted Loading) (string s ∷ []) (slots_moved Loading s x.slots) x.registers
-- SM?KL, 6.3.5, loads a key: it goes to the register that holds it, else to the lowest free one, and is open (document
-- 02, N3); register and stored card are replied
effect x KL vs r s =
    answered x (Accepted Loading)
    (number (card_place (card_in r) x.registers + 1) ∷ string (loaded_card (card_in r) x.supplement.check s) ∷ [])
    x.slots
    (set x.registers (card_place (card_in r) x.registers)
    (filled_register (loaded_card (card_in r) x.supplement.check s)))
-- SM?KF, 6.3.6, closes the session: PENDING or LOADING becomes IDLE, and just the keys whose KSL is the slot are closed
-- (document 02, N3)
effect x KF vs r s =
    answered x (Accepted Idle) [] (slots_moved Idle s x.slots) (map (closed_under s) x.registers)
-- SM?KX, 6.3.7, deletes a slot: the row becomes free, as do just the registers whose KSL is the slot
effect x KX vs r s = answered x (Accepted Free) [] (slots_without s x.slots) (map (without_slot s) x.registers)
-- SM?KD, 6.3.9, deletes a key: the register becomes free
effect x KD vs r s = answered x Done [] x.slots (set x.registers (register_in vs - 1) free_register)
-- SM?GA, 6.3.8, gets a card: the stored card is replied
effect x GA vs r s =
    answered x Done (string (stored_in (register_numbered (register_in vs) x.registers)) ∷ []) x.slots x.registers
-- SM?GL, 6.3.1, lists the slots: the names of those not free are replied, ascending (document 02, N1)
effect x GL vs r s = answered x Done (name_fields (slot_names x.slots)) x.slots x.registers
-- SM?KQ, 6.3.2, queries a slot: state, KMCID, TVP and fingerprints of the slot, and the numbers of its registers are
-- replied
effect x KQ vs r s = answered x Done (query_fields (slot_named s x.slots) x.registers) x.slots x.registers
-- no command: question 7 comes first
effect x Unknown vs r s = answered x Done [] x.slots x.registers

-- all yes: the command is done; else it is refused by the first no
abbrev pub answer_to : Call → Option Refusal → Command → List Value → Answer
answer_to x (some r) c vs = refused x r
answer_to x none c vs = effect x c vs (record_in c vs) (slot_in c vs)

unfoldable pub answer_of : Call → Answer
answer_of x = answer_to x (first_no (questions x)) (command_in x.request) (fields_in x.request)
