-- A list p laid over q, as when rows are taken into a table; and what comes back when a list is laid over p in turn, as when the table is put back.
use mathlib.Core.Path.{◌≡◌, refl, ap, ◌∙◌}
use mathlib.Core.List.{List, [], ◌∷◌, ◌++◌, append-nil, map, map-id}
use Prim.Native.Nat.{ℕ, ◌≤◌}
use native.Mathlib.Omega.{arith}
use lib.ListN.{length, take, drop, length-append, drop_of_length-le}
use lib.Seq.{take_all, take_at}
use Rattle.row_types.specs.Registers.{free_register}
use Rattle.row_types.specs.declared.SlotRow.{SlotRow}
use Rattle.row_types.specs.declared.RegisterRow.{RegisterRow}
use Rattle.row_index.specs.Lent.{marked_row, marked_rows, card_in, mark_in}
use Rattle.row_lending.specs.Tables.{overlay, each_with, with_card, with_mark, free_slots, free_registers, free_cards, free_marks, slot_table, card_table, mark_table}
use Rattle.row_lending.proofs.Over.{laid}

-- there is a place for each of p: p stands in front, and others laid over it, as many, come back
module _ {X : Type 0} (p q : List X) (h : length p ≤ length q) where
  overlay_is : overlay p q ≡ p ++ drop (length p) q
  overlay_is = ap (λ (l : List X). l ++ drop (length p) q) (take_all (length q) p h)

  pub overlay_front : take (length p) (overlay p q) ≡ p
  overlay_front = ap (take (length p)) overlay_is ∙ take_at p (drop (length p) q) (length p) refl

  pub overlay_others : (r s : List X) → length r ≡ length p → overlay (r ++ s) p ≡ r
  overlay_others r s e =
      let k : length p ≤ length (r ++ s) = omega (arith, length-append r s, e) in
      ap (λ (l : List X). l ++ drop (length (r ++ s)) p) (take_at r s (length p) e) ∙ ap (λ (l : List X). r ++ l) (drop_of_length-le p k) ∙ append-nil r

-- what is made of each element is laid over what is made of each
overlay_map : {X Y : Type 0} (f : X → Y) (p q : List X) → overlay (map f p) (map f q) ≡ map f (overlay p q)
overlay_map f [] [] = refl
overlay_map f [] (y ∷ q) = refl
overlay_map f (x ∷ p) [] = refl
overlay_map {X} {Y} f (x ∷ p) (y ∷ q) = ap (λ (l : List Y). f x ∷ l) (overlay_map f p q)

-- so the tables that are loaded are the lent rows, their cards, or their marks, laid over free ones
pub slots_loaded : (ys : List SlotRow) → overlay (map (λ (r : SlotRow). r) ys) free_slots ≡ slot_table ys
slots_loaded ys = ap (λ (l : List SlotRow). overlay l free_slots) (map-id ys)

pub cards_loaded : (ys : List RegisterRow) → overlay (map card_in ys) free_cards ≡ card_table ys
unfolding free_registers free_register
cards_loaded ys = overlay_map card_in ys free_registers

pub marks_loaded : (ys : List RegisterRow) → overlay (map mark_in ys) free_marks ≡ mark_table ys
unfolding free_registers free_register
marks_loaded ys = overlay_map mark_in ys free_registers

-- cards and then marks, as many, put into rows: the rows with both are laid over them
pub both_put : (ys : List RegisterRow) (cs : List (List ℕ)) (ms : List ℕ) → length cs ≡ length ms → each_with with_mark (each_with with_card ys cs) ms ≡ overlay (marked_rows cs ms) ys
unfolding marked_rows
both_put ys cs ms e = go ys cs ms e ∙ laid ys (marked_rows cs ms)
  where
    go : (ys : List RegisterRow) (cs : List (List ℕ)) (ms : List ℕ) → length cs ≡ length ms → each_with with_mark (each_with with_card ys cs) ms ≡ each_with (λ _ r. r) ys (marked_rows cs ms)
    go ys [] [] e = refl
    go ys [] (m ∷ ms) e = absurd (omega (arith, e))
    go ys (c ∷ cs) [] e = absurd (omega (arith, e))
    go [] (c ∷ cs) (m ∷ ms) e = refl
    go (y ∷ ys) (c ∷ cs) (m ∷ ms) e = ap (λ (l : List RegisterRow). marked_row c m ∷ l) (go ys cs ms (omega (arith, e)))
