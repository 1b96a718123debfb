-- The supplement at the start is well formed, and one with a part that does not fit its place is not (docs/CONSOLE.md; document 01, question 4).
use mathlib.Core.Path.{◌≡◌, refl}
use mathlib.Core.Bool.{Bool, true, false, and-false}
use mathlib.Core.List.{List}
use Prim.Native.Nat.{ℕ}
use lib.Dec.{eqb, leb}
use lib.ListN.{length}
use Rattle.check_crc.specs.Crc.{crc_bit, crc_eight, crc_byte}
use Rattle.check_digits.specs.Hex.{hex_digit}
use Rattle.check_sums.specs.Checksum.{sum_digits, ends_in_sum}
use Rattle.text_classes.specs.Classes.{is_alphanumeric, is_mark, are_all}
use Rattle.text_classes.specs.Identifiers.{is_identifier}
use Rattle.text_calendar.specs.Calendar.{is_leap, days_in, is_date, is_time}
use Rattle.text_timestamps.specs.Timestamps.{is_date_and_time, is_timestamp}
use Rattle.record_parser.specs.Records.{body_of, field, is_record}
use Rattle.record_identities.specs.Identities.{identity_in_form}
use Rattle.row_types.specs.Lists.{padded}
use Rattle.row_types.specs.Supplements.{is_identity_right, is_load_request_right, is_well_formed}
use Rattle.row_types.specs.declared.Supplement.{Supplement}
use Rattle.console_verbs.specs.declared.Part.{Part}
use Rattle.console_verbs.specs.declared.Part.TheVariants.{Clock, Identity, LoadRequest, Tag, Check}
use Rattle.console_supplement.specs.Parts.{fitted, with_part, blank, start_supplement}

pub start_in_form : is_well_formed start_supplement ≡ true
unfolding is_well_formed is_identity_right is_load_request_right crc_bit crc_eight crc_byte hex_digit sum_digits ends_in_sum is_alphanumeric is_mark are_all is_identifier is_leap days_in is_date is_time is_date_and_time is_timestamp body_of field is_record identity_in_form padded fitted blank start_supplement
start_in_form = refl

-- the bytes fit the part's place
abbrev pub is_fit : Part → List ℕ → Bool
is_fit Clock v = eqb (length v) 16
is_fit Identity v = leb (length v) 128
is_fit LoadRequest v = leb (length v) 700
is_fit Tag v = eqb (length v) 48
is_fit Check v = eqb (length v) 6

pub out_of_form : (p : Part) (v : List ℕ) (x : Supplement) → is_fit p v ≡ false → is_well_formed (with_part p v x) ≡ false
unfolding is_well_formed is_identity_right is_load_request_right is_timestamp are_all fitted
out_of_form Clock v x e = rw e
out_of_form Identity v x e = simp (e, and-false)
out_of_form LoadRequest v x e = simp (e, and-false)
out_of_form Tag v x e = simp (e, and-false)
out_of_form Check v x e = simp (e, and-false)
