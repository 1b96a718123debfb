-- PTVD fields (001 clause 5.4, Table 6), as document 01 narrows them: what a payload says, and how it is written.
use Rattle.std.specs.Prelude.{ℕ, ◌+◌, ◌%◌, Bool, true, false, cond, ◌&&◌, List, [], ◌∷◌, ◌++◌, map}
use Rattle.std.specs.Prelude.{eqb, leb, length, drop}
use Prim.Native.Char.{code}
use Rattle.byte_strings.specs.Strings.{is_not, run}
use Rattle.byte_strings.specs.Texts.{all}
use Rattle.byte_pieces.specs.Pieces.{pieces, is_ended}
use Rattle.text_classes.specs.Classes.{are_all}
use Rattle.text_classes.specs.declared.Class.TheVariants.{Text, Hexadecimal}
use Rattle.text_decimals.specs.Decimals.{decimal, is_number}
use Rattle.text_decimal_writer.specs.Digits.{decimal_bytes}
use Rattle.text_timestamps.specs.Timestamps.{is_date_time}

-- a field's value: a number, a string, a date as its fourteen digits, hex octets as their digits; or none of these
pub data Value : Type 0 where
  number : ℕ → Value
  string : List ℕ → Value
  date : List ℕ → Value
  octets : List ℕ → Value
  bad : Value

-- the end-of-field character
abbrev pub tilde : ℕ
tilde = code "~"

-- two hexadecimal digits an octet
unfoldable pub is_octets : List ℕ → Bool
is_octets v =
    all (
    eqb (length v % 2) 0
    ∷ are_all Hexadecimal v
    ∷ [])

-- the value, if its content is in form
abbrev pub provided : Bool → Value → Value
provided true v = v
provided false v = bad

-- the content v of a field under its type (001 Table 6)
unfoldable pub typed : ℕ → List ℕ → Value
typed t v =
    cond (eqb t (code "N")) (provided (is_number 10 0 2147483647 v) (number (decimal v)))  -- Number
    (cond (eqb t (code "P")) (provided (are_all Text v) (string v))  -- PrintableString
    (cond (eqb t (code "D")) (provided (is_date_time v) (date v))  -- DateTime
    (cond (eqb t (code "H")) (provided (is_octets v) (octets v))  -- HexOctets
    bad)))

-- the value of a field without its ~: type, then content
abbrev pub value_of : List ℕ → Value
value_of [] = bad
value_of (t ∷ v) = typed t v

-- the fields of a payload, each ended by ~; what follows the last ~ is a bad one
unfoldable pub values_of : List ℕ → List Value
values_of s = map value_of (pieces tilde s) ++ cond (is_ended tilde s) [] (bad ∷ [])

abbrev pub first : List Value → Value
first [] = bad
first (v ∷ vs) = v

-- the field that stands at a place of a payload
unfoldable pub value_at : List ℕ → ℕ → Value
value_at s at = first (values_of (drop at s))

-- the place after a field that ends at e; where there is none, the place is where it was
abbrev pub after : Value → ℕ → ℕ → ℕ
after (number n) at e = e + 1
after (string v) at e = e + 1
after (date v) at e = e + 1
after (octets v) at e = e + 1
after bad at e = at

unfoldable pub next_at : List ℕ → ℕ → ℕ
next_at s at = after (value_at s at) at (at + run (is_not tilde) (drop at s))

-- a field as it is written: type, content, ~
unfoldable pub content_bytes : ℕ → List ℕ → List ℕ
content_bytes t v = t ∷ (v ++ (tilde ∷ []))

abbrev pub field_bytes : Value → List ℕ
field_bytes (number n) = content_bytes (code "N") (decimal_bytes n)
field_bytes (string v) = content_bytes (code "P") v
field_bytes (date v) = content_bytes (code "D") v
field_bytes (octets v) = content_bytes (code "H") v
field_bytes bad = []

abbrev pub payload_bytes : List Value → List ℕ
payload_bytes [] = []
payload_bytes (v ∷ vs) = field_bytes v ++ payload_bytes vs

-- a value that a field can carry
abbrev pub is_value : Value → Bool
is_value (number n) = leb n 2147483647
is_value (string v) = are_all Text v
is_value (date v) = is_date_time v
is_value (octets v) = is_octets v
is_value bad = false

abbrev pub are_values : List Value → Bool
are_values [] = true
are_values (v ∷ vs) = is_value v && are_values vs
