-- Cards and marks that are lent apart, read as register rows; and the tables that such rows make with slot rows.
use Rattle.std.specs.Prelude.{ℕ, List, [], ◌∷◌, map}
use Rattle.row_types.specs.Registers.{closed_mark}
use Rattle.row_types.specs.declared.SlotRow.{SlotRow}
use Rattle.row_types.specs.declared.RegisterRow.{RegisterRow}
use Rattle.row_types.specs.declared.Tables.{Tables}

-- the row with a card and a mark
abbrev pub marked_row : List ℕ → ℕ → RegisterRow
marked_row card mark = record { card = card; mark = mark }

-- the rows with cards and marks, place by place; a card without a mark is closed
unfoldable pub marked_rows : List (List ℕ) → List ℕ → List RegisterRow
marked_rows [] marks = []
marked_rows (c ∷ cs) [] = marked_row c closed_mark ∷ marked_rows cs []
marked_rows (c ∷ cs) (m ∷ ms) = marked_row c m ∷ marked_rows cs ms

-- the row with a card, as far as the card tells it: closed
abbrev pub row_with : List ℕ → RegisterRow
row_with card = marked_row card closed_mark

abbrev pub rows_with : List (List ℕ) → List RegisterRow
rows_with cards = map row_with cards

-- card and mark of a row
abbrev pub card_in : RegisterRow → List ℕ
card_in r = r.card

abbrev pub mark_in : RegisterRow → ℕ
mark_in r = r.mark

-- places of slot rows and of register rows, and how many rows of each the caller has
abbrev pub tables_with : List SlotRow → ℕ → List RegisterRow → ℕ → Tables
tables_with slots n registers m = record { slots = slots; registers = registers; slot_count = n; register_count = m }

-- the same with the register rows that hold lent cards, as far as these tell them
abbrev pub tables_with_cards : List SlotRow → ℕ → List (List ℕ) → ℕ → Tables
tables_with_cards slots n cards m = tables_with slots n (rows_with cards) m

-- and with their marks
abbrev pub tables_with_marks : List SlotRow → ℕ → List (List ℕ) → List ℕ → ℕ → Tables
tables_with_marks slots n cards marks m = tables_with slots n (marked_rows cards marks) m
