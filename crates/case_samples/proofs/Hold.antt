-- Every sample holds, as the definitions compute.
use mathlib.Core.Path.{refl}
use Rattle.check_crc.specs.Crc.{crc_bit, crc_eight, crc_byte}
use Rattle.check_digits.specs.Hex.{hex_digit}
use Rattle.check_sums.specs.Checksum.{sum_digits}
use Rattle.text_classes.specs.Classes.{is_alphanumeric, are_all}
use Rattle.text_classes.specs.Identifiers.{is_identifier}
use Rattle.text_decimals.specs.Decimals.{is_number, is_unpadded}
use Rattle.text_calendar.specs.Calendar.{is_leap, days_in, is_date, is_time}
use Rattle.text_timestamps.specs.Timestamps.{is_date_and_time, is_timestamp}
use Rattle.field_values.specs.Values.{typed, values_of}
use Rattle.text_forms.specs.Forms.{is_algorithm}
use Rattle.card_attributes.specs.Table.{table, always}
use Rattle.card_entries.specs.Entries.{name_of, value_of}
use Rattle.card_incoming.specs.Incoming.{fits, is_card, is_met, is_incoming}
use Rattle.card_stored.specs.Stored.{in_row, is_entry_of, is_stored}
use Rattle.case_samples.specs.Samples.{AllHold, samples, name_samples}

pub all_hold_lem : AllHold samples
unfolding samples crc_bit crc_eight crc_byte hex_digit sum_digits are_all is_number is_unpadded is_leap days_in is_date is_time is_date_and_time is_timestamp typed values_of is_algorithm table name_of value_of fits is_card is_met is_incoming
all_hold_lem = (refl, (refl, (refl, (refl, (refl, (refl, (refl, (refl, (refl, (refl, (refl, (refl, (refl, (refl, (refl, tt)))))))))))))))

pub names_hold : AllHold name_samples
unfolding name_samples are_all is_number is_unpadded days_in is_date is_time is_date_and_time is_timestamp is_algorithm is_alphanumeric is_identifier table always name_of value_of fits is_card is_met is_incoming in_row is_entry_of is_stored
names_hold = (refl, (refl, (refl, (refl, (refl, (refl, (refl, (refl, (refl, (refl, (refl, (refl, (refl, (refl, (refl, (refl, (refl, tt)))))))))))))))))
