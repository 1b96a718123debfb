-- SM?GL in whole requests (document 02, N1): the bytes of its answer are what the definition computes, over rows in several sequences.
use mathlib.Core.Path.{◌≡◌, refl}
use mathlib.Core.List.{List, [], ◌∷◌}
use Prim.Native.Nat.{ℕ}
use Prim.Native.String.{String}
use Rattle.byte_strings.specs.Texts.{text}
use Rattle.check_crc.specs.Crc.{crc_bit, crc_eight, crc_byte}
use Rattle.check_digits.specs.Hex.{hex_digit}
use Rattle.check_sums.specs.Checksum.{sum_digits, ends_in_sum}
use Rattle.text_classes.specs.Classes.{is_alphanumeric, are_all}
use Rattle.text_classes.specs.Identifiers.{is_identifier}
use Rattle.text_calendar.specs.Calendar.{days_in, is_date, is_time}
use Rattle.text_timestamps.specs.Timestamps.{is_date_and_time, timestamp_of, is_timestamp}
use Rattle.field_values.specs.Values.{typed, values_of, content_bytes}
use Rattle.message_frames.specs.Frames.{ends_in_return, is_whole, is_checked, text_of, header_of, payload_of, ending, framed, answered}
use Rattle.message_commands.specs.Commands.{headers, command_of}
use Rattle.message_replies.specs.Responses.{reply_bytes}
use Rattle.record_parser.specs.Records.{body_of, field, is_record}
use Rattle.record_identities.specs.Identities.{identity_in_form}
use Rattle.row_types.specs.Lists.{padded, trimmed}
use Rattle.row_types.specs.Registers.{is_vacant, is_register_sound, is_same_key, is_closed, is_open, free_register}
use Rattle.row_types.specs.Slots.{is_zero_slot, in_session, is_named, is_filled_slot, is_slot_sound, is_same_slot, free_slot, filled_slot}
use Rattle.row_types.specs.RowReplies.{slot_names}
use Rattle.row_types.specs.Sound.{is_owned, is_in_session, is_mark_sound, are_sound}
use Rattle.row_types.specs.Supplements.{is_identity_right, is_load_request_right, is_well_formed}
use Rattle.row_types.specs.declared.SlotRow.{SlotRow}
use Rattle.row_types.specs.declared.SlotState.TheVariants.{Pending, Loading, Idle}
use Rattle.row_types.specs.declared.Supplement.{Supplement}
use Rattle.engine.specs.Requests.{are_fields_of, record_in, slot_in}
use Rattle.engine.specs.Questions.{Call, are_counts, table_questions, questions, first_no}
use Rattle.engine.specs.Answers.{response, answer_of}
use Rattle.engine.specs.Answers as answers
use Rattle.engine.specs.Words.{Lent, call_of}
use Rattle.case_run.specs.Run.{clock, hand, print_a, print_b}

-- the request, over any rows, with any supplement and any buffer: what refuses it is a question that every request is asked, 1 to 4. So it is accepted, and lists, wherever these are yeses
abbrev listing : Lent → Supplement → List ℕ → Call
listing rows supplement buffer = call_of rows (record { request = text "SM?GL6991\r"; supplement = supplement; buffer = buffer })

pub list_asked : (rows : Lent) (supplement : Supplement) (buffer : List ℕ)
    → first_no (questions (listing rows supplement buffer)) ≡ first_no (table_questions (listing rows supplement buffer))
unfolding crc_bit crc_eight crc_byte hex_digit sum_digits ends_in_sum typed values_of ends_in_return is_whole is_checked text_of header_of payload_of headers command_of are_fields_of record_in slot_in questions
list_asked rows supplement buffer = refl

-- slots in the three states, by their names
abbrev pending : String → SlotRow
pending name = filled_slot Pending (text name) print_a clock

abbrev loading : String → SlotRow
loading name = filled_slot Loading (text name) print_a []

abbrev idle : String → SlotRow
idle name = filled_slot Idle (text name) print_b []

-- SM?GL over slot rows, and one register row, free
abbrev list : List SlotRow → List ℕ
list slots = response (answer_of (call_of (record { slots = slots; registers = free_register ∷ [] }) (hand (text "SM?GL6991\r"))))

-- each of these rows gives the same list
abbrev pub EachLists : List ℕ → List (List SlotRow) → Type 0
EachLists bytes [] = Unit {0}
EachLists bytes (slots ∷ others) = (list slots ≡ bytes) × EachLists bytes others

-- names that share a beginning, and a free row: the rows ascend, descend, and neither
abbrev pub five_slots : List (List SlotRow)
five_slots =
    (pending "A" ∷ idle "AB" ∷ free_slot ∷ loading "B" ∷ idle "Z" ∷ idle "a" ∷ [])
    ∷ (idle "a" ∷ idle "Z" ∷ loading "B" ∷ free_slot ∷ idle "AB" ∷ pending "A" ∷ [])
    ∷ (idle "AB" ∷ free_slot ∷ idle "a" ∷ pending "A" ∷ loading "B" ∷ idle "Z" ∷ [])
    ∷ []

abbrev pub eight_slots : List (List SlotRow)
eight_slots =
    (idle "aB" ∷ idle "a" ∷ idle "Z" ∷ idle "BA" ∷ idle "B" ∷ idle "ABC" ∷ idle "AB" ∷ idle "A" ∷ [])
    ∷ (idle "Z" ∷ idle "A" ∷ idle "aB" ∷ idle "AB" ∷ idle "B" ∷ idle "a" ∷ idle "ABC" ∷ idle "BA" ∷ [])
    ∷ []

pub each_lists : EachLists (text "SM!GL00PA~PAB~PB~PZ~Pa~62A4\r") five_slots × EachLists (text "SM!GL00PA~PAB~PABC~PB~PBA~PZ~Pa~PaB~0BC7\r") eight_slots
unfolding crc_bit crc_eight crc_byte hex_digit sum_digits ends_in_sum is_alphanumeric are_all is_identifier days_in is_date is_time is_date_and_time timestamp_of is_timestamp typed values_of content_bytes ends_in_return is_whole is_checked text_of header_of payload_of ending framed answered headers command_of reply_bytes body_of field is_record identity_in_form padded trimmed is_vacant is_register_sound is_same_key is_closed is_open free_register is_zero_slot in_session is_named is_filled_slot is_slot_sound is_same_slot free_slot filled_slot slot_names is_owned is_in_session is_mark_sound are_sound is_identity_right is_load_request_right is_well_formed are_fields_of record_in slot_in are_counts questions answers.answered answer_of
each_lists = ((refl, (refl, (refl, tt))), (refl, (refl, tt)))
