-- The classes of bytes that the papers name.
use Rattle.std.specs.Prelude.{ℕ, Bool, not, ◌&&◌, ◌||◌, List, [], ◌∷◌, leb, eqb}
use Prim.Native.Char.{code}
use Rattle.byte_strings.specs.Strings.{all_of}
use Rattle.byte_strings.specs.Texts.{all}
use Rattle.text_classes.specs.declared.Class.{Class}
use Rattle.text_classes.specs.declared.Class.TheVariants.{Digit, Hexadecimal, Capital, Identifier}
use Rattle.text_classes.specs.declared.Class.TheVariants.{Text, Printable, Value, Zero}

abbrev pub within : ℕ → ℕ → ℕ → Bool
within b low high = leb low b && leb b high

-- 003 clause 5.1.1: 0-9, A-Z, a-z
unfoldable pub is_alphanumeric : ℕ → Bool
is_alphanumeric b =
    within b (code "0") (code "9") || (within b (code "A") (code "Z") || within b (code "a") (code "z"))

-- 003 clause 5.1.3: underscore, comma, hyphen or period; the last three follow one another
unfoldable pub is_mark : ℕ → Bool
is_mark b = eqb b (code "_") || within b (code ",") (code ".")

abbrev pub is_of : Class → ℕ → Bool
-- 003 clause 5.1.1, Decimal
is_of Digit b = within b (code "0") (code "9")
-- 003 clause 5.1.1, Hexadecimal; document 01: capitals only
is_of Hexadecimal b = within b (code "0") (code "9") || within b (code "A") (code "F")
-- document 01, Cards: the names of entries
is_of Capital b = within b (code "A") (code "Z")
-- 003 clause 5.1.3: what may stand in an identifier
is_of Identifier b = is_alphanumeric b || is_mark b
-- 001 Table 6, PrintableString; document 01, Checksum and fields: 20 to 7D hexadecimal
is_of Text b = within b 0x20 0x7D
-- 003 clause 5.1.1, Printable ASCII: 20 to 7E hexadecimal
is_of Printable b = within b 0x20 0x7E
-- document 01, Cards: 20 to 7D hexadecimal but ; and |
is_of Value b = all (not (eqb b (code ";")) ∷ not (eqb b (code "|")) ∷ within b 0x20 0x7D ∷ [])
-- document 01, Slots and registers: what stands after the end of a name or a card
is_of Zero b = eqb b 0

-- every byte is of the class
unfoldable pub are_all : Class → List ℕ → Bool
are_all class s = all_of (is_of class) s
