-- What question 3 compares instead of whole rows, where each row is sound by itself: the slots' names as they are
-- kept and their states, and each register's key as a number.
use Rattle.std.specs.Prelude.{ℕ, ◌+◌, ◌*◌, Bool, cond, not, ◌&&◌, ◌||◌, List, eqb, length, take}
use Rattle.byte_strings.specs.Strings.{same_bytes}
use Rattle.text_decimals.specs.Decimals.{decimal}
use Rattle.card_attributes.specs.Table.{SGC, KRN, KSL}
use Rattle.row_types.specs.Lists.{some_row, trimmed}
use Rattle.row_types.specs.Registers.{is_vacant, attribute_of}
use Rattle.row_types.specs.declared.SlotRow.{SlotRow}
use Rattle.row_types.specs.declared.RegisterRow.{RegisterRow}

-- a name as it is kept, zeros after it
abbrev pub kept_name : SlotRow → List ℕ
kept_name r = r.kmcid

-- the number of its state
abbrev pub state_in : SlotRow → ℕ
state_in r = r.state

-- the kept name is s; an empty s names none
unfoldable pub is_called : List ℕ → List ℕ → Bool
is_called s name = not (eqb (length s) 0) && same_bytes (trimmed name) s

-- two kept names are one
unfoldable pub is_same_name : List ℕ → List ℕ → Bool
is_same_name a b = is_called (trimmed a) b

-- a filled register's KSL is one of the names
unfoldable pub is_owned_by : List (List ℕ) → RegisterRow → Bool
is_owned_by names r = is_vacant r || some_row (is_called (attribute_of KSL r)) names

-- SGC and KRN as one number: ten digits, then one; 0 of a free row
unfoldable pub key_number : RegisterRow → ℕ
key_number r =
    cond (is_vacant r) 0 (decimal (take 10 (attribute_of SGC r)) * 10 + decimal (take 1 (attribute_of KRN r)))

-- two rows with these numbers hold one key
unfoldable pub is_same_number : ℕ → ℕ → Bool
is_same_number a b = not (eqb a 0) && eqb a b
