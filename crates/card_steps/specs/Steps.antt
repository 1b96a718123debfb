-- Steps through a card: from an entry's place to the place after it (document 01, Cards). Places are counted from 0.
use Rattle.std.specs.Prelude.{ℕ, ◌+◌, Bool, cond, ◌&&◌, false, List, [], ◌∷◌, eqb, ltb, length, take, drop}
use Rattle.byte_strings.specs.Texts.{all}
use Rattle.text_forms.specs.Forms.{in_form}
use Rattle.text_forms.specs.declared.Form.{Form}
use Rattle.text_forms.specs.declared.Form.TheVariants.{Timestamp, Algorithm, Number, Digits, Hex, HexSome, Name}
use Rattle.text_forms.specs.declared.Form.TheVariants.{Empty, Label}
use Rattle.card_entries.specs.Entries.{entry_length, name_of}

-- s starts with an entry of the name, its value in form
unfoldable pub starts_with : ℕ → Form → List ℕ → Bool
starts_with n f s =
    all (
    ltb (entry_length s) (length s)
    ∷ eqb (name_of (take (entry_length s) s)) n
    ∷ in_form f (drop 3 (take (entry_length s) s))
    ∷ [])

-- the place after such an entry that stands at a place; beyond the end, where nothing stands, if there is none
unfoldable pub after : ℕ → Form → List ℕ → ℕ → ℕ
after n f s at = cond (starts_with n f (drop at s)) (at + (entry_length (drop at s) + 1)) (length s + 1)

-- every value of the form has n bytes
abbrev pub is_long : Form → ℕ → Bool
is_long Timestamp n = eqb n 16
is_long Algorithm n = eqb n 2
is_long (Number digits low high) n = eqb digits 1 && eqb n 1
is_long (Digits k) n = eqb k n
is_long (Hex k) n = eqb k n
is_long HexSome n = false
is_long Name n = false
is_long Empty n = eqb n 0
is_long (Label k) n = false
