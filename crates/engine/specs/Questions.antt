-- The eighteen questions in order (document 01, Questions in order): the first no decides.
use Rattle.std.specs.Prelude.{ℕ, ◌-◌, Bool, true, false, cond, not, ◌||◌, List, [], ◌∷◌, ◌++◌, eqb, leb, length, get_or}
use Rattle.std.proofs.Math.Option.{Option, none, some}
use Rattle.byte_strings.specs.Strings.{same_bytes}
use Rattle.byte_strings.specs.Texts.{all}
use Rattle.text_timestamps.specs.Timestamps.{timestamp_of, is_later}
use Rattle.card_entries.specs.Entries.{value_of, or_else}
use Rattle.card_attributes.specs.Table.{SGC, KRN}
use Rattle.record_identities.specs.Identities.{fingerprint_in}
use Rattle.record_types.specs.KeyRecords.{parses_public_key, parses_response, parses_key}
use Rattle.record_types.specs.KeyRecords.{public_key_in_form, response_in_form, key_in_form}
use Rattle.field_values.specs.Values.{Value}
use Rattle.message_frames.specs.Frames.{is_whole, is_checked}
use Rattle.message_commands.specs.declared.Command.{Command}
use Rattle.message_commands.specs.declared.Command.TheVariants.{KC, KR, KL, KF, KX, KD, GA, KQ}
use Rattle.row_types.specs.Lists.{first_from}
use Rattle.row_types.specs.Slots.{has_state, is_named, free_slot}
use Rattle.row_types.specs.Registers.{is_vacant, is_key_of, free_register}
use Rattle.row_types.specs.Sound.{are_sound}
use Rattle.row_types.specs.Supplements.{own_identity, is_well_formed}
use Rattle.row_types.specs.declared.SlotRow.{SlotRow}
use Rattle.row_types.specs.declared.RegisterRow.{RegisterRow}
use Rattle.row_types.specs.declared.SlotState.TheVariants.{Free, Pending, Loading}
use Rattle.row_types.specs.declared.Supplement.{Supplement}
use Rattle.engine.specs.Requests.{is_among, command_in, fields_in, is_one_of_ten, are_fields_of}
use Rattle.engine.specs.Requests.{register_in, record_in, slot_in}
use Rattle.engine.specs.Requests.{kmc_identity_in, module_identity_in, expiry_in, tvp_in, tag_in, card_in}
use Rattle.engine.specs.declared.Refusal.{Refusal}
use Rattle.engine.specs.declared.Refusal.TheVariants.{RowCounts, ShortBuffer, UnsoundRows, BadSupplement}
use Rattle.engine.specs.declared.Refusal.TheVariants.{BadFrame, BadChecksum, UnknownHeader}
use Rattle.engine.specs.declared.Refusal.TheVariants.{BadFields, BadRecord, BadForm, Expired}
use Rattle.engine.specs.declared.Refusal.TheVariants.{UnknownSlot, NoFreeSlot, WrongState}
use Rattle.engine.specs.declared.Refusal.TheVariants.{OtherModule, OtherFingerprint, OtherTvp, OtherTag}
use Rattle.engine.specs.declared.Refusal.TheVariants.{CheckFailed, NoFreeRegister, EmptyRegister}

-- what is handed in: the rows and their true counts, the length of the response buffer, the supplement, the request
pub record Call : Type 0 where
  pub slots : List SlotRow
  pub registers : List RegisterRow
  pub slot_count : ℕ
  pub register_count : ℕ
  pub room : ℕ
  pub supplement : Supplement
  pub request : List ℕ

-- places in the rows: the slot of a name, the lowest free slot; the register that holds a key, the lowest free one
abbrev pub slot_place : List ℕ → List SlotRow → Option ℕ
slot_place s rows = first_from (is_named s) 0 rows

abbrev pub free_place : List SlotRow → Option ℕ
free_place rows = first_from (has_state Free) 0 rows

abbrev pub key_place : List ℕ → List ℕ → List RegisterRow → Option ℕ
key_place g k rows = first_from (is_key_of g k) 0 rows

abbrev pub vacant_place : List RegisterRow → Option ℕ
vacant_place rows = first_from is_vacant 0 rows

abbrev pub is_place : Option ℕ → Bool
is_place none = false
is_place (some i) = true

-- the first of two places that there is
abbrev pub place_else : Option ℕ → Option ℕ → Option ℕ
place_else (some i) other = some i
place_else none other = other

-- a place; past every row where there is none
abbrev pub place_in : {A : Type 0} → List A → Option ℕ → ℕ
place_in rows (some i) = i
place_in rows none = length rows

-- where SM?KC makes its slot: the slot of that KMCID, else the lowest free row
unfoldable pub session_place : List ℕ → List SlotRow → Option ℕ
session_place s rows = place_else (slot_place s rows) (free_place rows)

-- where SM?KL stores a key: the register that holds its SGC and KRN, from any slot, else the lowest free one
unfoldable pub store_place : List ℕ → List ℕ → List RegisterRow → Option ℕ
store_place g k rows = place_else (key_place g k rows) (vacant_place rows)

-- the row of a slot; a free one where it is unknown
unfoldable pub slot_named : List ℕ → List SlotRow → SlotRow
slot_named s rows = get_or rows (place_in rows (slot_place s rows)) free_slot

-- SGC and KRN of an incoming card
abbrev pub group_in : List ℕ → List ℕ
group_in card = or_else (value_of SGC card) []

abbrev pub revision_in : List ℕ → List ℕ
revision_in card = or_else (value_of KRN card) []

-- 1 to 8 slots, 1 to 32 registers
unfoldable pub are_counts : ℕ → ℕ → Bool
are_counts slots registers = all (leb 1 slots ∷ leb slots 8 ∷ leb 1 registers ∷ leb registers 32 ∷ [])

-- register n, counted from 1; a free one past the rows. 0 is no register: `is_filled` says no of it
abbrev pub register_numbered : ℕ → List RegisterRow → RegisterRow
register_numbered n rows = get_or rows (n - 1) free_register

-- register n is filled; 0 or beyond the rows is not
unfoldable pub is_filled : ℕ → List RegisterRow → Bool
is_filled n rows = all (leb 1 n ∷ leb n (length rows) ∷ not (is_vacant (register_numbered n rows)) ∷ [])

-- a question that only some commands are asked
abbrev pub asked : List Command → Command → Bool → Bool
asked cs c b = cond (is_among c cs) b true

-- question 9: the record parses, and each identity inside it, with type, field count and CRC
abbrev pub parses_record : Command → List ℕ → Bool
parses_record c r = all (
    asked (KC ∷ []) c (parses_public_key r)
    ∷ asked (KR ∷ []) c (parses_response r)
    ∷ asked (KL ∷ []) c (parses_key r)
    ∷ [])

-- question 10: its fields, or its card, are in form
abbrev pub is_record_in_form : Command → List ℕ → Bool
is_record_in_form c r = all (
    asked (KC ∷ []) c (public_key_in_form r)
    ∷ asked (KR ∷ []) c (response_in_form r)
    ∷ asked (KL ∷ []) c (key_in_form r)
    ∷ [])

-- question 14: KR: PENDING, KL: LOADING, KF: either
abbrev pub is_state_right : Command → SlotRow → Bool
is_state_right c row = all (
    asked (KR ∷ []) c (has_state Pending row)
    ∷ asked (KL ∷ []) c (has_state Loading row)
    ∷ asked (KF ∷ []) c (has_state Pending row || has_state Loading row)
    ∷ [])

-- a question, and the refusal where the answer is no
infixl 2 ◌otherwise◌
pub data Question : Type 0 where
  ◌otherwise◌ : Bool → Refusal → Question

-- Below, a comment says question and refusal by their numbers in document 01: from question 15 on they differ.

-- of tables, buffer and supplement, for each command alike
abbrev pub table_questions : Call → List Question
table_questions x =
    -- question 1, refusal 1: are the row counts in range?
    (are_counts x.slot_count x.register_count otherwise RowCounts)
    -- question 2, refusal 2: is the response buffer long enough?
    ∷ (leb 1024 x.room otherwise ShortBuffer)
    -- question 3, refusal 3: are the rows sound?
    ∷ (are_sound x.slots x.registers otherwise UnsoundRows)
    -- question 4, refusal 4: is the supplement well formed, all of it?
    ∷ (is_well_formed x.supplement otherwise BadSupplement)
    ∷ []

-- of the message
abbrev pub message_questions : List ℕ → List Question
message_questions request =
    -- question 5, refusal 5: are length and the only carriage return, at the end, right?
    (is_whole request otherwise BadFrame)
    -- question 6, refusal 6: is the checksum right?
    ∷ (is_checked request otherwise BadChecksum)
    -- question 7, refusal 7: is the header one of the ten?
    ∷ (is_one_of_ten (command_in request) otherwise UnknownHeader)
    ∷ []

-- of the payload: vs are its fields, r the record among them
abbrev pub payload_questions : Command → List Value → List ℕ → List Question
payload_questions c vs r =
    -- question 8, refusal 8: are the payload's fields those of the command, nothing over?
    (are_fields_of c vs otherwise BadFields)
    -- question 9, refusal 9: does the record parse, and each identity inside it?
    ∷ (parses_record c r otherwise BadRecord)
    -- question 10, refusal 10: are its fields, or its card, in form?
    ∷ (is_record_in_form c r otherwise BadForm)
    ∷ []

-- of what it names: s is the slot, row the slot's row
abbrev pub row_questions : Call → Command → List Value → List ℕ → List ℕ → SlotRow → List Question
row_questions x c vs r s row =
    -- question 11, refusal 11: is the expiry later than the clock?
    (asked (KC ∷ []) c (is_later (timestamp_of (expiry_in r)) (timestamp_of x.supplement.clock)) otherwise Expired)
    -- question 12, refusal 12: is the slot known?
    ∷ (asked (KR ∷ KL ∷ KF ∷ KX ∷ KQ ∷ []) c (is_place (slot_place s x.slots)) otherwise UnknownSlot)
    -- question 13, refusal 13: known slot or a free row?
    ∷ (asked (KC ∷ []) c (is_place (session_place s x.slots)) otherwise NoFreeSlot)
    -- question 14, refusal 14: has the slot the state that the command needs?
    ∷ (is_state_right c row otherwise WrongState)
    -- question 15, refusal 15: is the module identity our own?
    ∷ (asked (KR ∷ []) c (same_bytes (module_identity_in r) (own_identity x.supplement)) otherwise OtherModule)
    -- question 15, refusal 16: then the fingerprint the slot's?
    ∷ (asked (KR ∷ []) c (same_bytes (fingerprint_in (kmc_identity_in r)) row.fingerprint) otherwise OtherFingerprint)
    -- question 15, refusal 17: the TVP the slot's?
    ∷ (asked (KR ∷ []) c (same_bytes (tvp_in r) row.tvp) otherwise OtherTvp)
    -- question 15, refusal 18: the tag as expected?
    ∷ (asked (KR ∷ []) c (same_bytes (tag_in r) x.supplement.tag) otherwise OtherTag)
    -- question 16, refusal 19: did the cryptographic check pass?
    ∷ (asked (KC ∷ KL ∷ []) c (eqb x.supplement.passed 1) otherwise CheckFailed)
    -- question 17, refusal 20: held or free register?
    ∷ (asked (KL ∷ []) c (is_place (store_place (group_in (card_in r)) (revision_in (card_in r)) x.registers))
    otherwise NoFreeRegister)
    -- question 18, refusal 21: is the register filled?
    ∷ (asked (GA ∷ KD ∷ []) c (is_filled (register_in vs) x.registers) otherwise EmptyRegister)
    ∷ []

-- all eighteen
abbrev pub questions_of : Call → Command → List Value → List ℕ → List ℕ → SlotRow → List Question
questions_of x c vs r s row =
    table_questions x ++ (message_questions x.request ++ (payload_questions c vs r ++ row_questions x c vs r s row))

unfoldable pub questions : Call → List Question
questions x =
    questions_of x (command_in x.request) (fields_in x.request)
    (record_in (command_in x.request) (fields_in x.request))
    (slot_in (command_in x.request) (fields_in x.request))
    (slot_named (slot_in (command_in x.request) (fields_in x.request)) x.slots)

-- the refusal of the first question whose answer is no
abbrev pub first_no : List Question → Option Refusal
first_no [] = none
first_no ((b otherwise r) ∷ qs) = cond b (first_no qs) (some r)
