-- Every byte of a written payload is printable, 20 to 7E hexadecimal: a response holds no carriage return but its last.
use mathlib.Core.Path.{◌≡◌, refl}
use mathlib.Core.Bool.{true}
use mathlib.Core.List.{List, [], ◌∷◌}
use Prim.Native.Nat.{ℕ, ◌%◌}
use lib.Dec.{eqb}
use lib.ListN.{length}
use Rattle.byte_strings.proofs.Flags.{nope, and_first, and_second}
use Rattle.byte_strings.proofs.StringLaws.{all_append}
use Rattle.text_classes.specs.Classes.{is_of, are_all}
use Rattle.text_classes.specs.declared.Class.{Class}
use Rattle.text_classes.specs.declared.Class.TheVariants.{Digit, Hexadecimal, Text, Printable}
use Rattle.text_classes.proofs.Printable.{Within, within_class, digit_text, hex_text, text_printable}
use Rattle.text_decimal_writer.specs.Digits.{decimal_bytes}
use Rattle.text_decimal_writer.proofs.RoundTrip.{written_digits}
use Rattle.text_timestamps.proofs.Plain.{date_digits}
use Rattle.field_values.specs.Values.{Value, number, string, date, octets, bad, is_octets, content_bytes, field_bytes, payload_bytes, is_value, are_values}

-- a field whose content is of a class within text
module _ (t : ℕ) (p : is_of Printable t ≡ true) (k : Class) (h : Within k Text) (v : List ℕ) (e : are_all k v ≡ true) where
  content_printable : are_all Printable (content_bytes t v) ≡ true
  unfolding content_bytes are_all
  content_printable = rw p (all_append (is_of Printable) v (126 ∷ []) (within_class Text Printable text_printable v (within_class k Text h v e)) refl)

field_printable : (x : Value) → is_value x ≡ true → are_all Printable (field_bytes x) ≡ true
unfolding are_all is_octets
field_printable (number n) e = content_printable 78 refl Digit digit_text (decimal_bytes n) (written_digits n)
field_printable (string v) e = content_printable 80 refl Text (λ b q. q) v e
field_printable (date v) e = content_printable 68 refl Digit digit_text v (date_digits v e)
field_printable (octets v) e = content_printable 72 refl Hexadecimal hex_text v (and_second (eqb (length v % 2) 0) (are_all Hexadecimal v) e)
field_printable bad e = nope (cc)

pub payload_printable : (vs : List Value) → are_values vs ≡ true → are_all Printable (payload_bytes vs) ≡ true
unfolding are_all
payload_printable [] e = refl
payload_printable (v ∷ vs) e =
    all_append (is_of Printable) (field_bytes v) (payload_bytes vs) (field_printable v (and_first (is_value v) (are_values vs) e)) (payload_printable vs (and_second (is_value v) (are_values vs) e))
