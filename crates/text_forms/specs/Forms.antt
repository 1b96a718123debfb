-- The forms of the values in cards and records.
use Rattle.std.specs.Prelude.{ℕ, Bool, ◌||◌, List, [], ◌∷◌, leb, eqb, length}
use Rattle.byte_strings.specs.Strings.{same_bytes}
use Rattle.byte_strings.specs.Texts.{text, all}
use Rattle.text_classes.specs.Classes.{are_all}
use Rattle.text_classes.specs.Identifiers.{is_identifier}
use Rattle.text_classes.specs.declared.Class.TheVariants as class
use Rattle.text_decimals.specs.Decimals.{is_number}
use Rattle.text_timestamps.specs.Timestamps.{is_timestamp}
use Rattle.text_forms.specs.declared.Form.{Form}
use Rattle.text_forms.specs.declared.Form.TheVariants.{Timestamp, Algorithm, Number, Digits}
use Rattle.text_forms.specs.declared.Form.TheVariants.{Hex, HexSome, Name, Empty, Label}

-- document 01, Cards: DKG (02 or 04)
unfoldable pub is_algorithm : List ℕ → Bool
is_algorithm v = same_bytes v (text "02") || same_bytes v (text "04")

-- the value v has the form
abbrev pub in_form : Form → List ℕ → Bool
-- document 01, What the caller lends: YYYYMMDDThhmmssZ
in_form Timestamp v = is_timestamp v
-- document 01, Cards: 02 or 04
in_form Algorithm v = is_algorithm v
-- document 01, Cards: a decimal number in a range, of so many digits at most, without leading zero
in_form (Number digits low high) v = all (leb digits 10 ∷ is_number digits low high v ∷ [])
-- document 01, Cards: so many decimal digits
in_form (Digits n) v = all (eqb (length v) n ∷ are_all class.Digit v ∷ [])
-- document 01, What the caller lends, Records, Cards: so many hexadecimal digits
in_form (Hex n) v = all (eqb (length v) n ∷ are_all class.Hexadecimal v ∷ [])
-- document 01, Records: one or more hexadecimal digits
in_form HexSome v = all (leb 1 (length v) ∷ are_all class.Hexadecimal v ∷ [])
-- document 01, Records: an identifier, of type IDENT
in_form Name v = is_identifier v
-- document 01, Records: an empty field
in_form Empty v = eqb (length v) 0
-- document 02, N2: so many bytes at most, 20 to 7D hexadecimal but ; and |
in_form (Label n) v = all (leb (length v) n ∷ are_all class.Value v ∷ [])
