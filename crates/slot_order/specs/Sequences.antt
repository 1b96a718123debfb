-- The places of the slots that are not free, counted from 0, in ascending byte sequence of their names (document 02,
-- N1).
use Rattle.std.specs.Prelude.{ℕ, Bool, not, List, [], map, ltb, get_or, take}
use Rattle.byte_orders.specs.Orders.{is_before, sorted_by}
use Rattle.row_types.specs.Lists.{every_row, trimmed, numbers_from}
use Rattle.row_types.specs.Slots.{has_state}
use Rattle.row_types.specs.Index.{kept_name}
use Rattle.row_types.specs.declared.SlotRow.{SlotRow}
use Rattle.row_types.specs.declared.SlotState.TheVariants.{Free}

-- the name at a place, of names as they are kept
abbrev pub name_at : List (List ℕ) → ℕ → List ℕ
name_at names k = trimmed (get_or names k [])

-- a place stands before another where its name does
unfoldable pub is_before_at : List (List ℕ) → ℕ → ℕ → Bool
is_before_at names j k = is_before (name_at names j) (name_at names k)

-- every place is below a count
abbrev pub are_below : ℕ → List ℕ → Bool
are_below n places = every_row (λ k. ltb k n) places

-- the places of the rows that are not free, the first row having the place i
abbrev pub filled_from : ℕ → List SlotRow → List ℕ
filled_from i rows = numbers_from (λ r. not (has_state Free r)) i rows

-- those of the first n slots, by name
abbrev pub slot_sequence : List SlotRow → ℕ → List ℕ
slot_sequence slots n = sorted_by (is_before_at (map kept_name slots)) (filled_from 0 (take n slots))
