-- What each command is asked, 8 and on (document 01, Questions in order): S and R are the rows, x the supplement, vs
-- the fields, r the record, s the slot's name, row the slot's row.
use Rattle.std.specs.Prelude.{ℕ, ◌-◌, ◌||◌, List, [], ◌∷◌, eqb}
use Rattle.std.proofs.Math.Option.{Option, none, some}
use Rattle.byte_strings.specs.Strings.{same_bytes}
use Rattle.text_timestamps.specs.Timestamps.{timestamp_of, is_later}
use Rattle.field_values.specs.Values.{Value}
use Rattle.record_identities.specs.Identities.{name_in, fingerprint_in}
use Rattle.record_types.specs.KeyRecords.{parses_public_key, parses_response, parses_key}
use Rattle.record_types.specs.KeyRecords.{public_key_in_form, response_in_form, key_in_form}
use Rattle.message_commands.specs.declared.Command.TheVariants.{RS, KF, KD}
use Rattle.row_types.specs.Slots.{has_state}
use Rattle.row_types.specs.Supplements.{own_identity}
use Rattle.row_types.specs.declared.SlotRow.{SlotRow}
use Rattle.row_types.specs.declared.RegisterRow.{RegisterRow}
use Rattle.row_types.specs.declared.Supplement.{Supplement}
use Rattle.row_types.specs.declared.SlotState.TheVariants.{Pending, Loading}
use Rattle.engine.specs.Requests.{are_fields_of, first_text, register_in}
use Rattle.engine.specs.Requests.{kmc_identity_in, module_identity_in, expiry_in, tvp_in, tag_in, card_in}
use Rattle.engine.specs.Questions.{Question, ◌otherwise◌, is_filled, first_no}
use Rattle.engine.specs.Questions.{slot_place, session_place, store_place, place_in, is_place, group_in, revision_in}
use Rattle.engine.specs.declared.Refusal.{Refusal}
use Rattle.engine.specs.declared.Refusal.TheVariants.{BadFields, BadRecord, BadForm, Expired}
use Rattle.engine.specs.declared.Refusal.TheVariants.{UnknownSlot, NoFreeSlot, WrongState}
use Rattle.engine.specs.declared.Refusal.TheVariants.{OtherModule, OtherFingerprint, OtherTvp, OtherTag}
use Rattle.engine.specs.declared.Refusal.TheVariants.{CheckFailed, NoFreeRegister, EmptyRegister}
use Rattle.engine.specs.declared.Decision.{Decision}
use Rattle.engine.specs.declared.Decision.TheVariants.{Refuse}
use Rattle.decide_questions.specs.declared.Asked.{Asked}
use Rattle.decide_questions.specs.declared.Asked.TheVariants.{No, At}

-- GL?RS and SM?GL: they have no field
abbrev pub plain_questions : List Value → List Question
plain_questions vs = (are_fields_of RS vs otherwise BadFields) ∷ []

-- SM?KX and SM?KQ, and SM?KF first: the slot that they name
abbrev pub slot_questions : List SlotRow → List Value → List Question
slot_questions S vs =
    (are_fields_of KF vs otherwise BadFields)
    ∷ (is_place (slot_place (first_text vs) S) otherwise UnknownSlot)
    ∷ []

-- then SM?KF: question 14
abbrev pub session_questions : SlotRow → List Question
session_questions row = ((has_state Pending row || has_state Loading row) otherwise WrongState) ∷ []

-- SM?KD and SM?GA: the register that they name
abbrev pub register_questions : List RegisterRow → List Value → List Question
register_questions R vs =
    (are_fields_of KD vs otherwise BadFields)
    ∷ (is_filled (register_in vs) R otherwise EmptyRegister)
    ∷ []

-- SM?KC, once its field is right
abbrev pub start_questions : List SlotRow → Supplement → List ℕ → List Question
start_questions S x r =
    (parses_public_key r otherwise BadRecord)
    ∷ (public_key_in_form r otherwise BadForm)
    ∷ (is_later (timestamp_of (expiry_in r)) (timestamp_of x.clock) otherwise Expired)
    ∷ (is_place (session_place (name_in (kmc_identity_in r)) S) otherwise NoFreeSlot)
    ∷ (eqb x.passed 1 otherwise CheckFailed)
    ∷ []

-- SM?KR: question 15
abbrev pub response_questions : Supplement → List ℕ → SlotRow → List Question
response_questions x r row =
    (same_bytes (module_identity_in r) (own_identity x) otherwise OtherModule)
    ∷ (same_bytes (fingerprint_in (kmc_identity_in r)) row.fingerprint otherwise OtherFingerprint)
    ∷ (same_bytes (tvp_in r) row.tvp otherwise OtherTvp)
    ∷ (same_bytes (tag_in r) x.tag otherwise OtherTag)
    ∷ []

-- SM?KR, once its field is right
abbrev pub open_questions : List SlotRow → Supplement → List ℕ → SlotRow → List Question
open_questions S x r row =
    (parses_response r otherwise BadRecord)
    ∷ (response_in_form r otherwise BadForm)
    ∷ (is_place (slot_place (name_in (kmc_identity_in r)) S) otherwise UnknownSlot)
    ∷ (has_state Pending row otherwise WrongState)
    ∷ response_questions x r row

-- SM?KL: questions 16 and 17, of its card
abbrev pub store_questions : List RegisterRow → Supplement → List ℕ → List Question
store_questions R x card =
    (eqb x.passed 1 otherwise CheckFailed)
    ∷ (is_place (store_place (group_in card) (revision_in card) R) otherwise NoFreeRegister)
    ∷ []

-- SM?KL, once its fields are right
abbrev pub load_questions : List SlotRow → List RegisterRow → Supplement → List ℕ → List ℕ → SlotRow → List Question
load_questions S R x s r row =
    (parses_key r otherwise BadRecord)
    ∷ (key_in_form r otherwise BadForm)
    ∷ (is_place (slot_place s S) otherwise UnknownSlot)
    ∷ (has_state Loading row otherwise WrongState)
    ∷ store_questions R x (card_in r)

-- what the questions about a row come to: the refusal of the first no, else its place
abbrev pub asked_of : Option Refusal → ℕ → Asked
asked_of (some r) k = No r
asked_of none k = At k

unfoldable pub slot_asked : List SlotRow → List Value → Asked
slot_asked S vs = asked_of (first_no (slot_questions S vs)) (place_in S (slot_place (first_text vs) S))

unfoldable pub register_asked : List RegisterRow → List Value → Asked
register_asked R vs = asked_of (first_no (register_questions R vs)) (register_in vs - 1)

-- what is to be done at a place, or the refusal
abbrev pub done_at : (ℕ → Decision) → Asked → Decision
done_at f (No r) = Refuse r
done_at f (At k) = f k
