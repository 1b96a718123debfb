-- The tables that lent rows are taken into (document 01, What the caller lends).
use Rattle.std.specs.Prelude.{ℕ, List, [], ◌∷◌, ◌++◌, map, length, take, drop, replicate}
use Rattle.row_types.specs.Slots.{free_slot}
use Rattle.row_types.specs.Registers.{free_register, closed_mark}
use Rattle.row_types.specs.declared.SlotRow.{SlotRow}
use Rattle.row_types.specs.declared.RegisterRow.{RegisterRow}
use Rattle.row_index.specs.Lent.{marked_row, card_in, mark_in}

-- q with the elements of p in the place of its first ones, as many as there are in both
abbrev pub overlay : {X : Type 0} → List X → List X → List X
overlay p q = take (length q) p ++ drop (length p) q

-- each row with the cell of its place put into it; rows beyond the cells stay
abbrev pub each_with : {R C : Type 0} → (R → C → R) → List R → List C → List R
each_with f rows [] = rows
each_with f [] (c ∷ cs) = []
each_with f (r ∷ rs) (c ∷ cs) = f r c ∷ each_with f rs cs

-- a row with another card, and with another mark
abbrev pub with_card : RegisterRow → List ℕ → RegisterRow
with_card r card = marked_row card (mark_in r)

abbrev pub with_mark : RegisterRow → ℕ → RegisterRow
with_mark r mark = marked_row (card_in r) mark

-- 8 and 32 free rows, and 32 free rows' cards and marks
unfoldable pub free_slots : List SlotRow
free_slots = replicate 8 free_slot

unfoldable pub free_registers : List RegisterRow
free_registers = replicate 32 free_register

abbrev pub free_cards : List (List ℕ)
free_cards = replicate 32 (replicate 256 0)

abbrev pub free_marks : List ℕ
free_marks = replicate 32 closed_mark

-- the lent rows as far as there are places, and free rows after them
abbrev pub slot_table : List SlotRow → List SlotRow
slot_table ys = overlay ys free_slots

abbrev pub register_table : List RegisterRow → List RegisterRow
register_table ys = overlay ys free_registers

-- the cards and the marks in it
abbrev pub card_table : List RegisterRow → List (List ℕ)
card_table ys = map card_in (register_table ys)

abbrev pub mark_table : List RegisterRow → List ℕ
mark_table ys = map mark_in (register_table ys)
