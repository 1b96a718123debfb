-- The run is what the engine's definition computes, call by call, and so the list of demand 3.
use Prim.Native.Nat.{ℕ}
use mathlib.Core.Path.{◌≡◌, refl, ap}
use mathlib.Core.Bool.{Bool, true}
use mathlib.Core.List.{List, [], ◌∷◌, ◌++◌, map}
use Rattle.check_crc.specs.Crc.{crc_bit, crc_eight, crc_byte}
use Rattle.check_digits.specs.Hex.{hex_digit}
use Rattle.check_sums.specs.Checksum.{sum_digits, ends_in_sum}
use Rattle.text_classes.specs.Classes.{is_alphanumeric, is_mark, are_all}
use Rattle.text_classes.specs.Identifiers.{is_identifier}
use Rattle.text_decimals.specs.Decimals.{is_unpadded, is_number}
use Rattle.text_calendar.specs.Calendar.{is_leap, days_in, is_date, is_time}
use Rattle.text_timestamps.specs.Timestamps.{is_date_and_time, timestamp_of, date_time_of, is_timestamp, is_date_time}
use Rattle.field_values.specs.Bounds.{number_of}
use Rattle.field_values.specs.Values.{is_octets, typed, values_of, value_at, next_at, content_bytes}
use Rattle.message_frames.specs.Frames.{ends_in_return, is_whole, is_checked, text_of, header_of, payload_of, ending, framed, request_bytes, answered}
use Rattle.message_commands.specs.Commands.{headers, command_of}
use Rattle.message_replies.specs.Responses.{reply_bytes, status_of, fields_of}
use Rattle.record_parser.specs.Records.{body_of, field, is_record}
use Rattle.text_forms.specs.Forms.{is_algorithm}
use Rattle.card_attributes.specs.Table.{table, always}
use Rattle.card_entries.specs.Entries.{name_of, value_of, value_or, entry_bytes}
use Rattle.card_incoming.specs.Incoming.{fits, is_card, is_met, is_incoming}
use Rattle.card_stored.specs.Stored.{default_card, stored_value, stored_card, in_row, is_entry_of, is_stored}
use Rattle.record_identities.specs.Identities.{identity_in_form}
use Rattle.record_types.specs.KeyRecords.{parses_public_key, public_key_in_form, parses_response, response_in_form, key_in_form}
use Rattle.row_types.specs.Lists.{padded, trimmed}
use Rattle.row_types.specs.Registers.{is_vacant, attribute_of, is_key_of, is_under, is_register_sound, is_same_key, is_closed, is_open, free_register, filled_register, without_slot, closed_row, closed_under}
use Rattle.row_types.specs.Slots.{is_zero_slot, in_session, is_named, is_filled_slot, is_slot_sound, is_same_slot, free_slot, filled_slot, reset_slot}
use Rattle.row_types.specs.Sound.{is_owned, is_in_session, is_mark_sound, are_sound}
use Rattle.row_types.specs.Supplements.{is_identity_right, is_load_request_right, is_well_formed}
use Rattle.text_decimal_writer.specs.Digits.{dec_digits, decimal_bytes}
use Rattle.engine.specs.Requests.{are_fields_of, record_in, slot_in}
use Rattle.engine.specs.Questions.{session_place, store_place, slot_named, are_counts, is_filled, questions}
use Rattle.engine.specs.Answers.{slots_pending, slots_without, loaded_card, card_place, answer_of}
use Rattle.engine.specs.Usable.{is_usable}
use Rattle.engine.specs.Words.{slot_is, register_is, is_accepted, empty_rows}
use Rattle.engine.specs.Answers as answers
use Rattle.engine.specs.Words.{Lent, rows_after, item_at}
use Rattle.history.specs.History.{trace}
use Rattle.history.specs.Model.{Item}
use Rattle.case_run.specs.Run.{Stage, centre_a, centre_b, deletions, stages}
use Rattle.case_run.specs.Refresh.{at_rest, Vending, refresh}

-- each stage follows from the rows before it
abbrev pub Follows : Lent → List Stage → Type 0
Follows t [] = Unit {0}
Follows t (g ∷ gs) = (item_at t g.call ≡ g.item) × (rows_after t g.call ≡ g.after) × Follows g.after gs

-- the rows that stages leave
abbrev rows_left : Lent → List Stage → Lent
rows_left t [] = t
rows_left t (g ∷ gs) = rows_left g.after gs

both : (t : Lent) (gs hs : List Stage) → Follows t gs → Follows (rows_left t gs) hs → Follows t (gs ++ hs)
both t [] hs f k = k
both t (g ∷ gs) hs f k = (f.0, f.1, both g.after gs hs f.2 k)

first_centre : Follows (empty_rows 2 2) centre_a
unfolding crc_bit crc_eight crc_byte hex_digit sum_digits ends_in_sum is_alphanumeric is_mark are_all is_identifier is_unpadded is_number is_leap days_in is_date is_time is_date_and_time timestamp_of date_time_of is_timestamp is_date_time number_of is_octets typed values_of value_at next_at content_bytes ends_in_return is_whole is_checked text_of header_of payload_of ending framed request_bytes answered headers command_of reply_bytes status_of fields_of body_of field is_record is_algorithm table always name_of value_of value_or entry_bytes fits is_card is_met is_incoming default_card stored_value stored_card in_row is_entry_of is_stored identity_in_form parses_public_key public_key_in_form parses_response response_in_form key_in_form padded trimmed is_vacant attribute_of is_key_of is_under is_register_sound is_same_key is_closed is_open free_register filled_register without_slot closed_row closed_under is_zero_slot in_session is_named is_filled_slot is_slot_sound is_same_slot free_slot filled_slot reset_slot is_owned is_in_session is_mark_sound are_sound is_identity_right is_load_request_right is_well_formed dec_digits decimal_bytes are_fields_of record_in slot_in session_place store_place slot_named are_counts is_filled questions slots_pending slots_without loaded_card card_place answers.refused answers.answered answer_of slot_is register_is is_accepted empty_rows
first_centre = (refl, refl, (refl, refl, (refl, refl, (refl, refl, (refl, refl, (refl, refl, tt))))))

second_centre : Follows (rows_left (empty_rows 2 2) centre_a) centre_b
unfolding crc_bit crc_eight crc_byte hex_digit sum_digits ends_in_sum is_alphanumeric is_mark are_all is_identifier is_unpadded is_number is_leap days_in is_date is_time is_date_and_time timestamp_of date_time_of is_timestamp is_date_time number_of is_octets typed values_of value_at next_at content_bytes ends_in_return is_whole is_checked text_of header_of payload_of ending framed request_bytes answered headers command_of reply_bytes status_of fields_of body_of field is_record is_algorithm table always name_of value_of value_or entry_bytes fits is_card is_met is_incoming default_card stored_value stored_card in_row is_entry_of is_stored identity_in_form parses_public_key public_key_in_form parses_response response_in_form key_in_form padded trimmed is_vacant attribute_of is_key_of is_under is_register_sound is_same_key is_closed is_open free_register filled_register without_slot closed_row closed_under is_zero_slot in_session is_named is_filled_slot is_slot_sound is_same_slot free_slot filled_slot reset_slot is_owned is_in_session is_mark_sound are_sound is_identity_right is_load_request_right is_well_formed dec_digits decimal_bytes are_fields_of record_in slot_in session_place store_place slot_named are_counts is_filled questions slots_pending slots_without loaded_card card_place answers.refused answers.answered answer_of slot_is register_is is_accepted empty_rows
second_centre = (refl, refl, (refl, refl, (refl, refl, (refl, refl, tt))))

ends : Follows (rows_left (rows_left (empty_rows 2 2) centre_a) centre_b) deletions
unfolding crc_bit crc_eight crc_byte hex_digit sum_digits ends_in_sum is_alphanumeric is_mark are_all is_identifier is_unpadded is_number is_leap days_in is_date is_time is_date_and_time timestamp_of date_time_of is_timestamp is_date_time number_of is_octets typed values_of value_at next_at content_bytes ends_in_return is_whole is_checked text_of header_of payload_of ending framed request_bytes answered headers command_of reply_bytes status_of fields_of body_of field is_record is_algorithm table always name_of value_of value_or entry_bytes fits is_card is_met is_incoming default_card stored_value stored_card in_row is_entry_of is_stored identity_in_form parses_public_key public_key_in_form parses_response response_in_form key_in_form padded trimmed is_vacant attribute_of is_key_of is_under is_register_sound is_same_key is_closed is_open free_register filled_register without_slot closed_row closed_under is_zero_slot in_session is_named is_filled_slot is_slot_sound is_same_slot free_slot filled_slot reset_slot is_owned is_in_session is_mark_sound are_sound is_identity_right is_load_request_right is_well_formed dec_digits decimal_bytes are_fields_of record_in slot_in session_place store_place slot_named are_counts is_filled questions slots_pending slots_without loaded_card card_place answers.refused answers.answered answer_of slot_is register_is is_accepted empty_rows
ends = (refl, refl, (refl, refl, (refl, refl, (refl, refl, tt))))

-- THE REFRESH: each call follows, and which of the two keys may vend after it
abbrev lent_usable : Lent → ℕ → Bool
lent_usable t n = is_usable (record { slots = t.slots; registers = t.registers; slot_count = 2; register_count = 2 }) n

abbrev pub Refreshes : Lent → List Vending → Type 0
Refreshes t [] = Unit {0}
Refreshes t (v ∷ vs) =
    (item_at t v.stage.call ≡ v.stage.item) × (rows_after t v.stage.call ≡ v.stage.after) × (lent_usable v.stage.after 1 ≡ v.first) × (lent_usable v.stage.after 2 ≡ v.second)
    × Refreshes v.stage.after vs

pub refreshes : (lent_usable at_rest 1 ≡ true) × (lent_usable at_rest 2 ≡ true) × Refreshes at_rest refresh
unfolding crc_bit crc_eight crc_byte hex_digit sum_digits ends_in_sum is_alphanumeric is_mark are_all is_identifier is_unpadded is_number is_leap days_in is_date is_time is_date_and_time timestamp_of date_time_of is_timestamp is_date_time number_of is_octets typed values_of value_at next_at content_bytes ends_in_return is_whole is_checked text_of header_of payload_of ending framed request_bytes answered headers command_of reply_bytes status_of fields_of body_of field is_record is_algorithm table always name_of value_of value_or entry_bytes fits is_card is_met is_incoming default_card stored_value stored_card in_row is_entry_of is_stored identity_in_form parses_public_key public_key_in_form parses_response response_in_form key_in_form padded trimmed is_vacant attribute_of is_key_of is_under is_register_sound is_same_key is_closed is_open free_register filled_register without_slot closed_row closed_under is_zero_slot in_session is_named is_filled_slot is_slot_sound is_same_slot free_slot filled_slot reset_slot is_owned is_in_session is_mark_sound are_sound is_identity_right is_load_request_right is_well_formed dec_digits decimal_bytes are_fields_of record_in slot_in session_place store_place slot_named are_counts is_filled questions slots_pending slots_without loaded_card card_place answers.refused answers.answered answer_of slot_is register_is is_accepted empty_rows is_usable
refreshes = (refl, refl, (refl, refl, refl, refl, (refl, refl, refl, refl, (refl, refl, refl, refl, (refl, refl, refl, refl, tt)))))

pub follows : Follows (empty_rows 2 2) stages
follows =
    both (empty_rows 2 2) centre_a (centre_b ++ deletions) first_centre
    (both (rows_left (empty_rows 2 2) centre_a) centre_b deletions second_centre ends)

-- so the list of the calls is the list of the items
pub read : (t : Lent) (gs : List Stage) → Follows t gs → trace rows_after item_at t (map (λ (g : Stage). g.call) gs) ≡ map (λ (g : Stage). g.item) gs
unfolding trace
read t [] f = refl
read t (g ∷ gs) f = rw (f.0, f.1) (ap (λ (l : List Item). g.item ∷ l) (read g.after gs f.2))

pub run_read : trace rows_after item_at (empty_rows 2 2) (map (λ (g : Stage). g.call) stages) ≡ map (λ (g : Stage). g.item) stages
run_read = read (empty_rows 2 2) stages follows
