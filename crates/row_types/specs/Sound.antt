-- Question 3: are the rows sound?
use Rattle.std.specs.Prelude.{ℕ, Bool, not, ◌||◌, List, [], ◌∷◌}
use Rattle.byte_strings.specs.Texts.{all}
use Rattle.card_attributes.specs.Table.{KSL}
use Rattle.row_types.specs.Lists.{every_row, some_row, distinct_rows}
use Rattle.row_types.specs.Slots.{in_session, is_named, is_slot_sound, is_same_slot}
use Rattle.row_types.specs.Registers.{is_vacant, attribute_of, is_register_sound, is_same_key, is_closed, is_open}
use Rattle.row_types.specs.declared.SlotRow.{SlotRow}
use Rattle.row_types.specs.declared.RegisterRow.{RegisterRow}

-- a filled register's KSL is a slot not free
unfoldable pub is_owned : List SlotRow → RegisterRow → Bool
is_owned slots r = is_vacant r || some_row (is_named (attribute_of KSL r)) slots

-- the row is slot s, PENDING or LOADING
unfoldable pub is_in_session : List ℕ → SlotRow → Bool
is_in_session s v = all (is_named s v ∷ in_session v ∷ [])

-- a mark is closed, or open beside a key whose slot is PENDING or LOADING (document 02, N3); so a free row is closed,
-- and no other number is a mark
unfoldable pub is_mark_sound : List SlotRow → RegisterRow → Bool
is_mark_sound slots r =
    is_closed r || all (is_open r ∷ not (is_vacant r) ∷ some_row (is_in_session (attribute_of KSL r)) slots ∷ [])

unfoldable pub are_sound : List SlotRow → List RegisterRow → Bool
are_sound slots registers = all (
    every_row is_slot_sound slots  -- slot fields in form and present just where the state has them, free rows zero
    ∷ distinct_rows is_same_slot slots  -- identifiers distinct
    ∷ every_row is_register_sound registers  -- cards as stored, with CLU 0 and VND 0 to 999999999; free rows zero
    ∷ distinct_rows is_same_key registers  -- SGC and KRN pairs distinct
    ∷ every_row (is_owned slots) registers  -- each KSL a slot not free
    ∷ every_row (is_mark_sound slots) registers  -- every open key's slot PENDING or LOADING
    ∷ [])
