-- Register rows (document 01, Slots and registers): a stored card with the mark of its key, open or closed (document
-- 02, N3); or free. All but the mark itself is read of the card alone.
use Rattle.std.specs.Prelude.{ℕ, Bool, cond, not, ◌&&◌, ◌||◌, List, [], ◌∷◌, eqb, replicate}
use Rattle.byte_strings.specs.Strings.{same_bytes}
use Rattle.byte_strings.specs.Texts.{all}
use Rattle.text_classes.specs.Classes.{are_all}
use Rattle.text_classes.specs.declared.Class.TheVariants.{Zero}
use Rattle.card_attributes.specs.Table.{SGC, KRN, KSL}
use Rattle.card_entries.specs.Entries.{value_of, or_else}
use Rattle.card_stored.specs.Stored.{is_stored, in_row}
use Rattle.row_types.specs.declared.RegisterRow.{RegisterRow}

-- free: every byte of the card's space is zero. Of sound rows the mark is zero then too (`free-is-closed`,
-- proofs/SoundLaws.antt)
unfoldable pub is_vacant : RegisterRow → Bool
is_vacant r = are_all Zero r.card

-- what a row's card has under a name
unfoldable pub attribute_of : ℕ → RegisterRow → List ℕ
attribute_of n r = or_else (value_of n r.card) []

-- the row holds a key of the supply group g and the revision k
unfoldable pub is_key_of : List ℕ → List ℕ → RegisterRow → Bool
is_key_of g k r = all (not (is_vacant r) ∷ same_bytes (attribute_of SGC r) g ∷ same_bytes (attribute_of KRN r) k ∷ [])

-- the row holds a key of the slot s
unfoldable pub is_under : List ℕ → RegisterRow → Bool
is_under s r = not (is_vacant r) && same_bytes (attribute_of KSL r) s

-- a register row that is sound by itself: free and zero, or a card as stored
unfoldable pub is_register_sound : RegisterRow → Bool
is_register_sound r = is_vacant r || is_stored r.card

-- two rows that hold one key
unfoldable pub is_same_key : RegisterRow → RegisterRow → Bool
is_same_key a b = not (is_vacant a) && is_key_of (attribute_of SGC a) (attribute_of KRN a) b

-- the numbers of the marks
abbrev pub closed_mark : ℕ
closed_mark = 0

abbrev pub open_mark : ℕ
open_mark = 1

unfoldable pub is_closed : RegisterRow → Bool
is_closed r = eqb r.mark closed_mark

unfoldable pub is_open : RegisterRow → Bool
is_open r = eqb r.mark open_mark

-- a freed row: every byte is zero
unfoldable pub free_register : RegisterRow
free_register = record { card = replicate 256 0; mark = closed_mark }

-- SM?KL: a row filled with a stored card; its key is open, whether it was held before or not
unfoldable pub filled_register : List ℕ → RegisterRow
filled_register card = record { card = in_row card; mark = open_mark }

-- GL?RS: the key is closed
unfoldable pub closed_row : RegisterRow → RegisterRow
closed_row r = record { card = r.card; mark = closed_mark }

-- SM?KF: the key is closed where it is one of the slot
unfoldable pub closed_under : List ℕ → RegisterRow → RegisterRow
closed_under s r = cond (is_under s r) (closed_row r) r

-- SM?KX: the row becomes free where it holds a key of the slot
unfoldable pub without_slot : List ℕ → RegisterRow → RegisterRow
without_slot s r = cond (is_under s r) free_register r
