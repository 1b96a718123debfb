-- SM?GA and SM?KQ in whole requests: the bytes of their answers are what the definition computes. The last is the example of 001 clause 5.3.3. And which key may vend, computed.
use mathlib.Core.Path.{◌≡◌, refl}
use mathlib.Core.Bool.{Bool, true, false}
use mathlib.Core.List.{List, [], ◌∷◌, ◌++◌}
use Prim.Native.Nat.{ℕ}
use lib.ListN.{replicate}
use Rattle.byte_strings.specs.Texts.{text}
use Rattle.check_crc.specs.Crc.{crc_bit, crc_eight, crc_byte}
use Rattle.check_digits.specs.Hex.{hex_digit}
use Rattle.check_sums.specs.Checksum.{sum_digits, ends_in_sum}
use Rattle.text_classes.specs.Classes.{is_alphanumeric, are_all}
use Rattle.text_classes.specs.Identifiers.{is_identifier}
use Rattle.text_decimals.specs.Decimals.{is_unpadded, is_number}
use Rattle.text_calendar.specs.Calendar.{days_in, is_date, is_time}
use Rattle.text_timestamps.specs.Timestamps.{is_date_and_time, timestamp_of, is_timestamp}
use Rattle.text_decimal_writer.specs.Digits.{dec_digits, decimal_bytes}
use Rattle.field_values.specs.Values.{is_octets, typed, values_of, content_bytes}
use Rattle.message_frames.specs.Frames.{ends_in_return, is_whole, is_checked, text_of, header_of, payload_of, ending, framed, answered}
use Rattle.message_commands.specs.Commands.{headers, command_of}
use Rattle.message_replies.specs.Responses.{reply_bytes}
use Rattle.record_parser.specs.Records.{body_of, field, is_record}
use Rattle.text_forms.specs.Forms.{is_algorithm}
use Rattle.card_attributes.specs.Table.{table, always}
use Rattle.card_entries.specs.Entries.{name_of, value_of}
use Rattle.card_incoming.specs.Incoming.{fits, is_card, is_met, is_incoming}
use Rattle.card_stored.specs.Stored.{in_row, is_entry_of, is_stored}
use Rattle.record_identities.specs.Identities.{identity_in_form}
use Rattle.record_types.specs.KeyRecords.{key_in_form}
use Rattle.row_types.specs.Lists.{padded, trimmed}
use Rattle.row_types.specs.Registers.{is_vacant, attribute_of, is_key_of, is_under, is_register_sound, is_same_key, is_closed, is_open, free_register, filled_register, closed_row}
use Rattle.row_types.specs.Slots.{is_zero_slot, in_session, is_named, is_filled_slot, is_slot_sound, is_same_slot, free_slot, filled_slot}
use Rattle.row_types.specs.RowReplies.{state_text, slot_fields, query_fields}
use Rattle.row_types.specs.Sound.{is_owned, is_in_session, is_mark_sound, are_sound}
use Rattle.row_types.specs.Supplements.{is_identity_right, is_load_request_right, is_well_formed}
use Rattle.engine.specs.Requests.{are_fields_of, record_in, slot_in}
use Rattle.engine.specs.Questions.{slot_named, are_counts, is_filled, questions}
use Rattle.engine.specs.Answers.{response, refused, answer_of}
use Rattle.engine.specs.Answers as answers
use Rattle.engine.specs.Words.{Lent, call_of}
use Rattle.row_types.specs.declared.SlotState.TheVariants.{Pending, Loading, Idle}
use Rattle.row_types.specs.declared.SlotState.{SlotState}
use Rattle.row_types.specs.declared.SlotRow.{SlotRow}
use Rattle.row_types.specs.declared.RegisterRow.{RegisterRow}
use Rattle.row_types.specs.declared.Tables.{Tables}
use Rattle.row_types.specs.Places.{slot_rows, register_rows}
use Rattle.engine.specs.Usable.{is_usable}
use Rattle.case_run.specs.Run.{clock, hand, a, b, print_a, print_b, card_b, lent}

-- slot A is PENDING, slot B IDLE with its key in register 1, and register 2 is free
abbrev pub reply_rows : Lent
reply_rows = lent (filled_slot Pending a print_a clock) (filled_slot Idle b print_b []) (closed_row (filled_register card_b))

-- a request and the answer
pub record ReplyCase : Type 0 where
  pub request : List ℕ
  pub answer : List ℕ

-- SM?KQPA~B1D9: SM!KQ00PPENDING~PA~P~H~P20260101T000000Z~HAAAAAAAAAAAAAAAA~CB31
abbrev pub pending_slot : ReplyCase
pending_slot = record {
  request = text "SM?KQPA~B1D9\r";
  answer = text "SM!KQ00PPENDING~PA~P~H~P20260101T000000Z~HAAAAAAAAAAAAAAAA~CB31\r";
}

-- SM?KQPB~41D9: SM!KQ00PACTIVE~PB~P~HBBBBBBBBBBBBBBBB~P~H~N1~555C
abbrev pub idle_slot : ReplyCase
idle_slot = record {
  request = text "SM?KQPB~41D9\r";
  answer = text "SM!KQ00PACTIVE~PB~P~HBBBBBBBBBBBBBBBB~P~H~N1~555C\r";
}

-- SM?GAN1~B688: SM!GA00PACT20130716T151031Z;BDT20130716T151031Z;CLMFFFFFFFF;CLU0;DKG04;IUT20380119T031407Z;KCV92E101;KEN255;KRN6;KSLB;KTC2;SBMFFFF;SGC0000758825;ULM999999999;VND0;~5EC3
abbrev pub filled_register_shown : ReplyCase
filled_register_shown = record {
  request = text "SM?GAN1~B688\r";
  answer = text "SM!GA00PACT20130716T151031Z;BDT20130716T151031Z;CLMFFFFFFFF;CLU0;DKG04;IUT20380119T031407Z;KCV92E101;" ++ text "KEN255;KRN6;KSLB;KTC2;SBMFFFF;SGC0000758825;ULM999999999;VND0;~5EC3\r";
}

-- SM?GAN12~8602: SM!GA22CA00
abbrev pub empty_register : ReplyCase
empty_register = record {
  request = text "SM?GAN12~8602\r";
  answer = text "SM!GA22CA00\r";
}

abbrev pub reply_cases : List ReplyCase
reply_cases = pending_slot ∷ idle_slot ∷ filled_register_shown ∷ empty_register ∷ []

abbrev pub EachReplied : List ReplyCase → Type 0
EachReplied [] = Unit {0}
EachReplied (r ∷ rs) = (response (answer_of (call_of reply_rows (hand r.request))) ≡ r.answer) × EachReplied rs

pub each_replied : EachReplied reply_cases
unfolding crc_bit crc_eight crc_byte hex_digit sum_digits ends_in_sum is_alphanumeric are_all is_identifier is_unpadded is_number days_in is_date is_time is_date_and_time timestamp_of is_timestamp typed values_of content_bytes ends_in_return is_whole is_checked text_of header_of payload_of ending framed answered headers command_of reply_bytes body_of field is_record is_algorithm table always name_of value_of fits is_card is_met is_incoming identity_in_form key_in_form padded trimmed is_vacant attribute_of is_register_sound is_same_key is_closed is_open free_register closed_row is_zero_slot in_session is_named is_filled_slot is_slot_sound is_same_slot free_slot filled_slot is_owned is_in_session is_mark_sound are_sound is_identity_right is_load_request_right is_well_formed are_fields_of record_in are_counts questions refused answers.answered answer_of is_stored is_entry_of in_row filled_register is_octets is_under is_key_of slot_in slot_named is_filled state_text slot_fields query_fields dec_digits decimal_bytes
each_replied = (refl, (refl, (refl, (refl, tt))))

-- which key may vend: that of register 1, under B, where it is marked closed, whatever B's state
abbrev tables_with : SlotRow → RegisterRow → Tables
tables_with slot row = record { slots = slot ∷ replicate 7 free_slot; registers = row ∷ replicate 31 free_register; slot_count = 2; register_count = 2 }

abbrev slot_b : SlotState → List ℕ → SlotRow
slot_b state tvp = filled_slot state b print_b tvp

abbrev open_b : RegisterRow
open_b = filled_register card_b

pub vends : (is_usable (tables_with (slot_b Idle []) (closed_row open_b)) 1 ≡ true) × (is_usable (tables_with (slot_b Pending clock) (closed_row open_b)) 1 ≡ true) × (is_usable (tables_with (slot_b Loading []) (closed_row open_b)) 1 ≡ true)
unfolding are_all is_unpadded is_number days_in is_date is_time is_date_and_time timestamp_of is_timestamp is_alphanumeric is_identifier is_algorithm table always name_of value_of in_row is_entry_of is_stored padded trimmed is_vacant attribute_of is_key_of is_register_sound is_same_key is_closed is_open free_register closed_row filled_register is_zero_slot in_session is_named is_filled_slot is_slot_sound is_same_slot free_slot filled_slot is_owned is_in_session is_mark_sound are_sound slot_named are_counts is_filled is_usable
vends = (refl, refl, refl)

-- an open key may not; nor a register that is free, 0 or beyond the rows
pub vends_not : (is_usable (tables_with (slot_b Pending clock) open_b) 1 ≡ false) × (is_usable (tables_with (slot_b Loading []) open_b) 1 ≡ false)
    × (is_usable (tables_with (slot_b Idle []) (closed_row open_b)) 0 ≡ false) × (is_usable (tables_with (slot_b Idle []) (closed_row open_b)) 2 ≡ false) × (is_usable (tables_with (slot_b Idle []) (closed_row open_b)) 3 ≡ false)
unfolding are_all is_unpadded is_number days_in is_date is_time is_date_and_time timestamp_of is_timestamp is_alphanumeric is_identifier is_algorithm table always name_of value_of in_row is_entry_of is_stored padded trimmed is_vacant attribute_of is_key_of is_register_sound is_same_key is_closed is_open free_register closed_row filled_register is_zero_slot in_session is_named is_filled_slot is_slot_sound is_same_slot free_slot filled_slot is_owned is_in_session is_mark_sound are_sound slot_named are_counts is_filled is_usable
vends_not = (refl, refl, refl, refl, refl)

-- question 3 of the marks: open beside a PENDING or a LOADING slot, and no other number; not under an IDLE one, nor beside no card
abbrev sound_with : SlotRow → RegisterRow → Bool
sound_with slot row = are_sound (slot_rows (tables_with slot row)) (register_rows (tables_with slot row))

abbrev marked : ℕ → RegisterRow
marked n = record { card = in_row card_b; mark = n }

pub marks_judged : (sound_with (slot_b Pending clock) (marked 1) ≡ true) × (sound_with (slot_b Loading []) (marked 1) ≡ true) × (sound_with (slot_b Idle []) (marked 0) ≡ true)
    × (sound_with (slot_b Idle []) (marked 1) ≡ false) × (sound_with (slot_b Loading []) (marked 2) ≡ false) × (sound_with (slot_b Loading []) (marked 255) ≡ false)
    × (sound_with (slot_b Loading []) (record { card = replicate 256 0; mark = 1 }) ≡ false)
unfolding are_all is_unpadded is_number days_in is_date is_time is_date_and_time timestamp_of is_timestamp is_alphanumeric is_identifier is_algorithm table always name_of value_of in_row is_entry_of is_stored padded trimmed is_vacant attribute_of is_key_of is_register_sound is_same_key is_closed is_open free_register closed_row filled_register is_zero_slot in_session is_named is_filled_slot is_slot_sound is_same_slot free_slot filled_slot is_owned is_in_session is_mark_sound are_sound slot_named are_counts is_filled is_usable
marks_judged = (refl, refl, refl, refl, refl, refl, refl)
