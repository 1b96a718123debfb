-- Cards and marks of rows that are lent apart read as the rows.
use mathlib.Core.Path.{◌≡◌, refl, ap}
use mathlib.Core.Bool.{Bool, ◌&&◌}
use mathlib.Core.List.{List, [], ◌∷◌, map}
use Prim.Native.Nat.{ℕ, zero, suc, ◌≤◌, ◌<◌}
use native.Mathlib.Omega.{arith}
use lib.ListN.{length, get_or, take}
use Rattle.row_types.specs.Lists.{every_row}
use Rattle.row_types.specs.Registers.{closed_row}
use Rattle.row_types.specs.declared.SlotRow.{SlotRow}
use Rattle.row_types.specs.declared.RegisterRow.{RegisterRow}
use Rattle.row_index.specs.Lent.{marked_row, marked_rows, row_with, rows_with, card_in, mark_in, tables_with, tables_with_marks}

-- a front is no longer than it was to be
pub take_short : {A : Type 0} (n : ℕ) (l : List A) → length (take n l) ≤ n
take_short zero l = omega arith
take_short (suc n) [] = omega arith
take_short (suc n) (x ∷ xs) = let h = take_short n xs in omega arith

pub rows_again : (l : List RegisterRow) → marked_rows (map card_in l) (map mark_in l) ≡ l
unfolding marked_rows
rows_again [] = refl
rows_again (r ∷ rs) = ap (λ (z : List RegisterRow). r ∷ z) (rows_again rs)

-- tables with the cards and marks of register rows are tables with the rows
pub tables_again : (slots : List SlotRow) (n : ℕ) (rows : List RegisterRow) (m : ℕ) (cards : List (List ℕ)) (marks : List ℕ) → cards ≡ map card_in rows → marks ≡ map mark_in rows
    → tables_with_marks slots n cards marks m ≡ tables_with slots n rows m
tables_again slots n rows m cards marks e f = ap (λ (l : List RegisterRow). tables_with slots n l m) (rw (e, f) (rows_again rows))

-- the first rows have the first cards
pub marked_front : (m : ℕ) (cards : List (List ℕ)) (marks : List ℕ) → marked_rows (take m cards) marks ≡ take m (marked_rows cards marks)
unfolding marked_rows
marked_front zero cards marks = refl
marked_front (suc m) [] marks = refl
marked_front (suc m) (c ∷ cs) [] = ap (λ (z : List RegisterRow). row_with c ∷ z) (marked_front m cs [])
marked_front (suc m) (c ∷ cs) (k ∷ ks) = ap (λ (z : List RegisterRow). marked_row c k ∷ z) (marked_front m cs ks)

pub marked_long : (cards : List (List ℕ)) (marks : List ℕ) → length (marked_rows cards marks) ≡ length cards
unfolding marked_rows
marked_long [] marks = refl
marked_long (c ∷ cs) [] = ap suc (marked_long cs [])
marked_long (c ∷ cs) (k ∷ ks) = ap suc (marked_long cs ks)

-- the row of a place has its card and its mark
pub marked_at : (cards : List (List ℕ)) (marks : List ℕ) (i : ℕ) (d : RegisterRow) → length marks ≡ length cards → i < length cards → get_or (marked_rows cards marks) i d ≡ marked_row (get_or cards i []) (get_or marks i 0)
unfolding marked_rows
marked_at [] marks i d z h = absurd (omega arith)
marked_at (c ∷ cs) [] i d z h = absurd (omega arith)
marked_at (c ∷ cs) (a ∷ ks) zero d z h = refl
marked_at (c ∷ cs) (a ∷ ks) (suc i) d z h = marked_at cs ks i d (omega arith) (omega arith)

-- and the cards of the rows are the cards
pub marked_cards : (cards : List (List ℕ)) (marks : List ℕ) → map card_in (marked_rows cards marks) ≡ cards
unfolding marked_rows
marked_cards [] marks = refl
marked_cards (c ∷ cs) [] = ap (λ (z : List (List ℕ)). c ∷ z) (marked_cards cs [])
marked_cards (c ∷ cs) (k ∷ ks) = ap (λ (z : List (List ℕ)). c ∷ z) (marked_cards cs ks)

pub cards_again : (cards : List (List ℕ)) → map card_in (rows_with cards) ≡ cards
cards_again [] = refl
cards_again (c ∷ cs) = ap (λ (z : List (List ℕ)). c ∷ z) (cards_again cs)

-- as far as their cards tell them, the rows are closed
pub cards_closed : (cards : List (List ℕ)) (marks : List ℕ) → rows_with cards ≡ map closed_row (marked_rows cards marks)
unfolding marked_rows closed_row
cards_closed [] marks = refl
cards_closed (c ∷ cs) [] = ap (λ (z : List RegisterRow). row_with c ∷ z) (cards_closed cs [])
cards_closed (c ∷ cs) (k ∷ ks) = ap (λ (z : List RegisterRow). row_with c ∷ z) (cards_closed cs ks)

-- what is read of a row's card alone is read of marked rows as of their cards
module _ {B : Type 0} (f : RegisterRow → B) (h : (card : List ℕ) (mark : ℕ) → f (marked_row card mark) ≡ f (row_with card)) where
  pub read_alike : (cards : List (List ℕ)) (marks : List ℕ) → map f (marked_rows cards marks) ≡ map f (rows_with cards)
  unfolding marked_rows
  read_alike [] marks = refl
  read_alike (c ∷ cs) [] = ap (λ (z : List B). f (row_with c) ∷ z) (read_alike cs [])
  read_alike (c ∷ cs) (k ∷ ks) = rw (h c k) (ap (λ (z : List B). f (row_with c) ∷ z) (read_alike cs ks))

-- so is a test of each
pub every_alike_marked : (f : RegisterRow → Bool) → ((card : List ℕ) (mark : ℕ) → f (marked_row card mark) ≡ f (row_with card)) → (cards : List (List ℕ)) (marks : List ℕ)
    → every_row f (marked_rows cards marks) ≡ every_row f (rows_with cards)
unfolding marked_rows
every_alike_marked f h [] marks = refl
every_alike_marked f h (c ∷ cs) [] = ap (λ (b : Bool). f (row_with c) && b) (every_alike_marked f h cs [])
every_alike_marked f h (c ∷ cs) (k ∷ ks) = rw (h c k) (ap (λ (b : Bool). f (row_with c) && b) (every_alike_marked f h cs ks))
