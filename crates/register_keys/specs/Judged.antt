-- What question 3 asks of one register row (document 01, Questions in order), and its key, read of the card alone.
use Rattle.std.specs.Prelude.{ℕ, ◌+◌, ◌*◌, Bool, List, [], ◌∷◌, take}
use Rattle.byte_strings.specs.Texts.{all}
use Rattle.text_decimals.specs.Decimals.{decimal}
use Rattle.card_attributes.specs.Table.{SGC, KRN, KSL}
use Rattle.card_entries.specs.Entries.{value_of, or_else}
use Rattle.card_stored.specs.Stored.{is_stored}
use Rattle.row_types.specs.Lists.{some_row}
use Rattle.row_types.specs.Registers.{is_register_sound}
use Rattle.row_types.specs.Index.{is_called, is_owned_by}
use Rattle.row_types.specs.declared.RegisterRow.{RegisterRow}
use Rattle.row_index.specs.Found.{number_of}

-- a card as stored whose KSL is one of the names
unfoldable pub is_card_owned : List (List ℕ) → List ℕ → Bool
is_card_owned names card = all (
    is_stored card  -- cards as stored
    ∷ some_row (is_called (or_else (value_of KSL card) [])) names  -- each KSL a slot not free
    ∷ [])

-- SGC and KRN of a card as one number
unfoldable pub card_number : List ℕ → ℕ
card_number card =
    decimal (take 10 (or_else (value_of SGC card) [])) * 10
    + decimal (take 1 (or_else (value_of KRN card) []))

-- the number of the name that is the card's KSL
unfoldable pub card_owner : List (List ℕ) → List ℕ → ℕ
card_owner names card = number_of (is_called (or_else (value_of KSL card) [])) names

-- a row that is sound by itself, and free or owned by one of the names
unfoldable pub is_sound_under : List (List ℕ) → RegisterRow → Bool
is_sound_under names r = all (
    is_register_sound r
    ∷ is_owned_by names r
    ∷ [])
