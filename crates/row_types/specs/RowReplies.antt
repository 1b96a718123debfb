-- The fields of the replies to the three commands that only read rows, SM?GA, SM?GL and SM?KQ (document 01, Slots and
-- registers; 001 clauses 6.3.1, 6.3.2 and 6.3.8).
use Rattle.std.specs.Prelude.{ℕ, cond, not, List, [], ◌∷◌, ◌++◌, map}
use Rattle.byte_strings.specs.Texts.{text}
use Rattle.byte_strings.specs.Lists.{rows_that}
use Rattle.byte_orders.specs.Orders.{is_before, sorted_by}
use Rattle.field_values.specs.Values.{Value, number, string, octets}
use Rattle.row_types.specs.Lists.{trimmed, numbers_from}
use Rattle.row_types.specs.Slots.{has_state, kmcid_of}
use Rattle.row_types.specs.Registers.{is_under}
use Rattle.row_types.specs.declared.SlotRow.{SlotRow}
use Rattle.row_types.specs.declared.RegisterRow.{RegisterRow}
use Rattle.row_types.specs.declared.SlotState.TheVariants.{Free, Pending, Loading}

-- SM?GA: the card that a row stores, without the zeros after it
abbrev pub stored_in : RegisterRow → List ℕ
stored_in r = trimmed r.card

-- SM?GL: the identifiers of the slots that are not free, in ascending byte sequence (document 02, N1)
unfoldable pub slot_names : List SlotRow → List (List ℕ)
slot_names rows = sorted_by is_before (map kmcid_of (rows_that (λ r. not (has_state Free r)) rows))

abbrev pub name_fields : List (List ℕ) → List Value
name_fields names = map string names

-- SM?KQ: the state as 001 prints it: PENDING, LOADING, and ACTIVE for IDLE
unfoldable pub state_text : SlotRow → List ℕ
state_text r =
    cond (has_state Pending r) (text "PENDING")
    (cond (has_state Loading r) (text "LOADING")
    (text "ACTIVE"))

-- state and KMCID; TVP and fingerprint of the KEK; TVP and fingerprint that a response is awaited for. A PENDING row
-- holds the latter two, another row the fingerprint only: what a row does not hold is the empty string, or no octets
unfoldable pub slot_fields : SlotRow → List Value
slot_fields r =
    string (state_text r)
    ∷ string (kmcid_of r)
    ∷ string []
    ∷ octets (cond (has_state Pending r) [] r.fingerprint)
    ∷ string (cond (has_state Pending r) r.tvp [])
    ∷ octets (cond (has_state Pending r) r.fingerprint [])
    ∷ []

-- the numbers of the registers that hold a key of the slot s, ascending, counted from 1
abbrev pub registers_under : List ℕ → List RegisterRow → List ℕ
registers_under s rows = numbers_from (is_under s) 1 rows

abbrev pub number_fields : List ℕ → List Value
number_fields ns = map number ns

-- all fields of SM?KQ's reply; never a card
unfoldable pub query_fields : SlotRow → List RegisterRow → List Value
query_fields row registers = slot_fields row ++ number_fields (registers_under (kmcid_of row) registers)
