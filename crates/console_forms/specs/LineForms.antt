-- The forms of the lines that have more than one word after the first (docs/CONSOLE.md). r is what stands after the
-- first space.
use Rattle.std.specs.Prelude.{ℕ, Bool, List, [], ◌∷◌}
use Rattle.byte_strings.specs.Texts.{all}
use Rattle.text_decimals.specs.Decimals.{is_number}
use Rattle.text_forms.specs.Forms.{in_form}
use Rattle.text_forms.specs.declared.Form.TheVariants.{Hex}
use Rattle.console_words.specs.Words.{word, rest}

-- tables S R
abbrev pub are_tables : List ℕ → Bool
are_tables r =
    all (
    is_number 1 0 9 (word r)  -- S from 0 to 9
    ∷ is_number 2 0 33 (rest r)  -- R from 0 to 33
    ∷ [])

-- the second word is a number from 0 to 255: the state of a slot, the mark of a register
abbrev pub has_byte : List ℕ → Bool
has_byte r = is_number 3 0 255 (word (rest r))

-- NAME FINGERPRINT TVP, two digits a byte
abbrev pub is_slot_row : List ℕ → Bool
is_slot_row d =
    all (
    in_form (Hex 80) (word d)  -- NAME: 40 bytes
    ∷ in_form (Hex 32) (word (rest d))  -- FINGERPRINT: 16 bytes
    ∷ in_form (Hex 32) (rest (rest d))  -- TVP: 16 bytes
    ∷ [])

-- slot K S NAME FINGERPRINT TVP
abbrev pub is_slot : List ℕ → Bool
is_slot r =
    all (
    is_number 1 1 8 (word r)  -- K from 1 to 8
    ∷ has_byte r  -- S from 0 to 255
    ∷ is_slot_row (rest (rest r))
    ∷ [])

-- register K M CARD (document 02, N3), two digits a byte
abbrev pub is_register : List ℕ → Bool
is_register r =
    all (
    is_number 2 1 32 (word r)  -- K from 1 to 32
    ∷ has_byte r  -- M from 0 to 255
    ∷ in_form (Hex 512) (rest (rest r))  -- CARD: 256 bytes
    ∷ [])
