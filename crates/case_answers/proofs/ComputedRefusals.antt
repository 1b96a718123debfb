-- The two cards, and one with a longer SGN, in whole requests, over rows whose slot is LOADING: the answer is what the definition computes.
use mathlib.Core.Path.{◌≡◌, refl}
use mathlib.Core.List.{List, [], ◌∷◌, map, ◌++◌}
use mathlib.Core.Option.{some}
use Prim.Native.Nat.{ℕ}
use lib.ListN.{take}
use Rattle.byte_strings.specs.Texts.{text}
use Rattle.check_crc.specs.Crc.{crc_bit, crc_eight, crc_byte}
use Rattle.check_digits.specs.Hex.{hex_digit}
use Rattle.check_sums.specs.Checksum.{sum_digits, ends_in_sum}
use Rattle.text_classes.specs.Classes.{is_alphanumeric, are_all}
use Rattle.text_classes.specs.Identifiers.{is_identifier}
use Rattle.text_decimals.specs.Decimals.{is_unpadded, is_number}
use Rattle.text_calendar.specs.Calendar.{days_in, is_date, is_time}
use Rattle.text_timestamps.specs.Timestamps.{is_date_and_time, timestamp_of, is_timestamp}
use Rattle.field_values.specs.Values.{string, typed, values_of, content_bytes}
use Rattle.message_frames.specs.Frames.{ends_in_return, is_whole, is_checked, text_of, header_of, payload_of, ending, framed, answered}
use Rattle.message_commands.specs.Commands.{headers, command_of}
use Rattle.message_replies.specs.Responses.{Reply, reply_bytes}
use Rattle.record_parser.specs.Records.{body_of, field, is_record}
use Rattle.text_forms.specs.Forms.{is_algorithm}
use Rattle.card_attributes.specs.Table.{table}
use Rattle.card_entries.specs.Entries.{name_of, value_of}
use Rattle.card_incoming.specs.Incoming.{fits, is_card, is_met, is_incoming}
use Rattle.record_identities.specs.Identities.{identity_in_form}
use Rattle.record_types.specs.KeyRecords.{key_in_form}
use Rattle.row_types.specs.Lists.{padded, trimmed}
use Rattle.row_types.specs.Registers.{is_vacant, attribute_of, is_register_sound, is_same_key, is_closed, is_open, free_register}
use Rattle.row_types.specs.Slots.{is_zero_slot, in_session, is_named, is_filled_slot, is_slot_sound, is_same_slot, free_slot, filled_slot}
use Rattle.row_types.specs.Sound.{is_owned, is_in_session, is_mark_sound, are_sound}
use Rattle.row_types.specs.Supplements.{is_identity_right, is_load_request_right, is_well_formed}
use Rattle.engine.specs.Requests.{fields_in, are_fields_of, record_in, card_in}
use Rattle.engine.specs.Questions.{are_counts, questions}
use Rattle.engine.specs.Answers.{refused, answer_of}
use Rattle.message_commands.specs.declared.Command.TheVariants.{KL}
use Rattle.engine.specs.Words.{Lent, call_of}
use Rattle.engine.specs.declared.Refusal.TheVariants.{BadForm}
use Rattle.engine.specs.declared.Outcome.TheVariants.{Refused}
use Rattle.row_types.specs.declared.SlotState.TheVariants.{Loading}
use Rattle.case_samples.specs.Samples.{samples, name_samples}
use Rattle.case_run.specs.Run.{hand, a, print_a, lent}
use Rattle.case_answers.proofs.CardRefused.{bad_cards}

-- slot A is LOADING, one slot and both registers are free
abbrev pub loading : Lent
loading = lent (filled_slot Loading a print_a []) free_slot free_register

-- SM?KLPA~PKEY.1|01|ACT20130716T151031Z;BDT20130716T151031Z;DKG04;KRN6;KEN255;KTC2;SGC0000758825;|02|BE8D~84A4
abbrev pub unordered : List ℕ
unordered = text "SM?KLPA~PKEY.1|01|ACT20130716T151031Z;BDT20130716T151031Z;DKG04;KRN6;KEN255;KTC2;SGC0000758825;|02|BE8D~" ++ text "84A4\r"

-- SM?KLPA~PKEY.1|01|ACT20130716T151031Z;BDT20130716T151031Z;DKG04;KEN255;KRN0;KTC2;SGC0000758825;|02|9995~3806
abbrev pub revision_zero : List ℕ
revision_zero = text "SM?KLPA~PKEY.1|01|ACT20130716T151031Z;BDT20130716T151031Z;DKG04;KEN255;KRN0;KTC2;SGC0000758825;|02|9995~" ++ text "3806\r"

abbrev pub requests : List (List ℕ)
requests = unordered ∷ revision_zero ∷ []

-- their cards are those of the samples
pub sample_cards : map (λ (q : List ℕ). card_in (record_in KL (fields_in q))) requests ≡ bad_cards samples
unfolding are_all typed values_of text_of payload_of field record_in samples
sample_cards = refl

-- SM?KLPA~PKEY.1|01|ACT20130716T151031Z;BDT20130716T151031Z;DKG04;KEN255;KRN6;KTC2;SGC0000758825;SGNSURELOAD KMC TEST VUDK 12;|02|3F91~CE6B
abbrev pub long_name : List ℕ
long_name = text "SM?KLPA~PKEY.1|01|ACT20130716T151031Z;BDT20130716T151031Z;DKG04;KEN255;KRN6;KTC2;SGC0000758825;" ++ text "SGNSURELOAD KMC TEST VUDK 12;|02|3F91~CE6B\r"

pub name_card : map (λ (q : List ℕ). card_in (record_in KL (fields_in q))) (long_name ∷ []) ≡ take 1 (bad_cards name_samples)
unfolding are_all typed values_of text_of payload_of field record_in name_samples
name_card = refl

abbrev pub reply10 : Reply
reply10 = record { header = text "SM!KL"; status = text "EE"; fields = string (text "KM.10") ∷ [] }

pub reply10_bytes : reply_bytes reply10 ≡ text "SM!KLEEPKM.10~4705\r"
unfolding crc_bit crc_eight crc_byte hex_digit sum_digits content_bytes ending framed reply_bytes
reply10_bytes = refl

-- each is answered so, as is an SGN of 25 bytes, and every row stays
abbrev pub EachAnswered : List (List ℕ) → Type 0
EachAnswered [] = Unit {0}
EachAnswered (q ∷ qs) =
    (answer_of (call_of loading (hand q)) ≡ record { outcome = Refused BadForm; reply = some reply10; slots = loading.slots; registers = loading.registers }) × EachAnswered qs

pub each_answered : EachAnswered (long_name ∷ requests)
unfolding crc_bit crc_eight crc_byte hex_digit sum_digits ends_in_sum is_alphanumeric are_all is_identifier is_unpadded is_number days_in is_date is_time is_date_and_time timestamp_of is_timestamp typed values_of content_bytes ends_in_return is_whole is_checked text_of header_of payload_of ending framed answered headers command_of body_of field is_record is_algorithm table name_of value_of fits is_card is_met is_incoming identity_in_form key_in_form padded trimmed is_vacant attribute_of is_register_sound is_same_key is_closed is_open free_register is_zero_slot in_session is_named is_filled_slot is_slot_sound is_same_slot free_slot filled_slot is_owned is_in_session is_mark_sound are_sound is_identity_right is_load_request_right is_well_formed are_fields_of record_in are_counts questions refused answer_of
each_answered = (refl, (refl, (refl, tt)))
