-- The places by name: each is that of a row, and their names are the names in order.
use mathlib.Core.Path.{◌≡◌, refl, sym, ap, ◌∙◌}
use mathlib.Core.Bool.{Bool, true, false, cond, not}
use mathlib.Core.List.{List, [], ◌∷◌, ◌++◌, map, map-append}
use Prim.Native.Nat.{ℕ, ◌+◌, ◌-◌, ◌≤◌, ◌<◌}
use native.Mathlib.Nat.{add-zero}
use native.Mathlib.Omega.{arith}
use lib.Dec.{ltb}
use lib.ListN.{length, get_or, take, drop, length-map, get_or-map, take-append-drop, length-drop}
use lib.Seq.{get_or-drop, drop-drop, length-take-le}
use borrow.Author.Tests.{lt-ltb, ltb-true}
use Rattle.byte_strings.proofs.Flags.{and_first, and_second, and_both}
use Rattle.byte_orders.specs.Orders.{is_before, inserted_by, sorted_by}
use Rattle.byte_orders.proofs.OrderLaws.{sort_perm, mapped_sorted}
use Rattle.byte_strings.specs.Lists.{rows_that}
use Rattle.row_types.specs.Lists.{every_row, trimmed, numbers_from}
use Rattle.row_types.specs.Slots.{has_state, kmcid_of}
use Rattle.row_types.specs.Index.{kept_name}
use Rattle.row_types.specs.RowReplies.{slot_names}
use Rattle.row_types.specs.declared.SlotRow.{SlotRow}
use Rattle.row_types.specs.declared.SlotState.TheVariants.{Free}
use Rattle.row_types.proofs.LoopLaws.{rows_cons, rows_end, list_cons, list_end}
use Rattle.row_types.proofs.PlaceCounts.{get_d_any}
use Rattle.row_types.proofs.RowReplyLaws.{every_turned}
use Rattle.slot_order.specs.Sequences.{name_at, is_before_at, are_below, filled_from, slot_sequence}

-- what every element passes, every one in order passes
every_sorted : {A : Type 0} (f : A → Bool) (before : A → A → Bool) (l : List A) → every_row f l ≡ true → every_row f (sorted_by before l) ≡ true
every_sorted f before l e = every_turned f (sort_perm before l) ∙ e

numbers_below : {A : Type 0} (f : A → Bool) (n i : ℕ) (l : List A) → i + length l ≤ n → are_below n (numbers_from f i l) ≡ true
numbers_below f n i [] h = refl
numbers_below f n i (x ∷ xs) h = go (f x) (numbers_below f n (i + 1) xs (omega arith))
  where
    go : (t : Bool) → are_below n (numbers_from f (i + 1) xs) ≡ true → are_below n (cond t (i ∷ numbers_from f (i + 1) xs) (numbers_from f (i + 1) xs)) ≡ true
    go true q = and_both (ltb i n) (are_below n (numbers_from f (i + 1) xs)) (lt-ltb i n (omega arith)) q
    go false q = q

-- the place at i and those after it, of places below a count
module _ (n i : ℕ) (l : List ℕ) (w : are_below n (drop i l) ≡ true) (h : i < length l) where
  below_cons : are_below n (get_or l i 0 ∷ drop (i + 1) l) ≡ true
  below_cons = rw (list_cons 0 l i h) at w

  pub here_below : get_or l i 0 < n
  here_below = ltb-true (get_or l i 0) n (and_first (ltb (get_or l i 0) n) (are_below n (drop (i + 1) l)) below_cons)

  pub later_below : are_below n (drop (i + 1) l) ≡ true
  later_below = and_second (ltb (get_or l i 0) n) (are_below n (drop (i + 1) l)) below_cons

-- the names at the places of the rows l, which stand from i on
numbers_named : (f : SlotRow → Bool) (names r : List (List ℕ)) (i : ℕ) (l : List SlotRow) → drop i names ≡ map kept_name l ++ r
    → map (name_at names) (numbers_from f i l) ≡ map kmcid_of (rows_that f l)
numbers_named f names r i [] e = refl
numbers_named f names r i (x ∷ xs) e = go (f x) (numbers_named f names r (i + 1) xs (sym (drop-drop 1 i names) ∙ ap (drop 1) e))
  where
    here : get_or names i [] ≡ kept_name x
    here = ap (λ (k : ℕ). get_or names k []) (sym (add-zero i)) ∙ sym (get_or-drop i names 0 []) ∙ ap (λ (l : List (List ℕ)). get_or l 0 []) e

    go : (t : Bool) → map (name_at names) (numbers_from f (i + 1) xs) ≡ map kmcid_of (rows_that f xs)
        → map (name_at names) (cond t (i ∷ numbers_from f (i + 1) xs) (numbers_from f (i + 1) xs)) ≡ map kmcid_of (cond t (x ∷ rows_that f xs) (rows_that f xs))
    go true q = rw (here, q)
    go false q = q

module _ (slots : List SlotRow) (n : ℕ) where
  -- the names at the places are those that are told,
  pub sequence_names : map (name_at (map kept_name slots)) (slot_sequence slots n) ≡ slot_names (take n slots)
  unfolding slot_names is_before_at
  sequence_names =
      let e : map kept_name slots ≡ map kept_name (take n slots) ++ map kept_name (drop n slots) =
      ap (map kept_name) (sym (take-append-drop n slots)) ∙ map-append kept_name (take n slots) (drop n slots) in
      mapped_sorted is_before (name_at (map kept_name slots)) (filled_from 0 (take n slots))
      ∙ ap (sorted_by is_before) (numbers_named (λ r. not (has_state Free r)) (map kept_name slots) (map kept_name (drop n slots)) 0 (take n slots) e)

  -- and each place is that of a row
  pub sequence_below : (m : ℕ) → length slots ≡ m → n ≤ m → are_below m (slot_sequence slots n) ≡ true
  sequence_below m z h =
      every_sorted (λ k. ltb k m) (is_before_at (map kept_name slots)) (filled_from 0 (take n slots))
      (numbers_below (λ r. not (has_state Free r)) m 0 (take n slots) (omega (arith, length-take-le n slots (omega arith))))

-- the name at a place, as its row has it
pub name_of : (slots : List SlotRow) (k : ℕ) (d : SlotRow) → k < length slots → name_at (map kept_name slots) k ≡ kmcid_of (get_or slots k d)
name_of slots k d h = ap trimmed (get_d_any (map kept_name slots) k [] (kept_name d) (rw length-map h) ∙ get_or-map kept_name slots k d)

-- the loop from the last of the first n rows down
pub none_placed : (names : List (List ℕ)) (slots : List SlotRow) (n : ℕ) (places : List ℕ) → length slots ≡ 8 → n ≤ 8 → length places ≡ 8
    → drop 8 places ≡ sorted_by (is_before_at names) (filled_from n (drop n (take n slots)))
none_placed names slots n places z r y = rw (list_end places 8 (omega arith), rows_end slots n n 8 z r (omega arith))

module _ (names : List (List ℕ)) (slots : List SlotRow) (n i first : ℕ) (places : List ℕ) (inv : drop first places ≡ sorted_by (is_before_at names) (filled_from i (drop i (take n slots))))
    (z : length slots ≡ 8) (r : n ≤ 8) (m : i ≤ n) (h : 0 < i) where
  pub placed_below : i ≤ first → length names ≡ 8 → are_below (length names) (drop (first - 1 + 1) places) ≡ true
  placed_below k y =
      let e : first - 1 + 1 ≡ first = omega arith in
      let l : length (drop i (take n slots)) ≡ n - i = length-drop i (take n slots) ∙ ap (λ (a : ℕ). a - i) (length-take-le n slots (omega arith)) in
      rw (e, inv)
      (every_sorted (λ k. ltb k (length names)) (is_before_at names) (filled_from i (drop i (take n slots)))
      (numbers_below (λ r. not (has_state Free r)) (length names) i (drop i (take n slots)) (omega arith)))

  module _ (d : SlotRow) (t : Bool) (e : t ≡ has_state Free (get_or slots (i - 1) d)) where
    back : i - 1 + 1 ≡ i
    back = omega arith

    one_more : drop (i - 1) (take n slots) ≡ get_or slots (i - 1) d ∷ drop i (take n slots)
    one_more = rw back at (rows_cons d slots n (i - 1) 8 z r (omega arith))

    pub free_passed : t ≡ true → drop first places ≡ sorted_by (is_before_at names) (filled_from (i - 1) (drop (i - 1) (take n slots)))
    free_passed o = rw (one_more, ← e, o, back) inv

    pub row_placed : t ≡ false → i ≤ first → (after : List ℕ) → drop (first - 1) after ≡ inserted_by (is_before_at names) (i - 1) (drop (first - 1 + 1) places)
        → drop (first - 1) after ≡ sorted_by (is_before_at names) (filled_from (i - 1) (drop (i - 1) (take n slots)))
    row_placed o k after q =
        let f : first - 1 + 1 ≡ first = omega arith in
        rw (one_more, ← e, o, back) (q ∙ rw (f, inv))

-- all rows placed
pub all_placed : (names : List (List ℕ)) (slots : List SlotRow) (n i : ℕ) (l : List ℕ) → names ≡ map kept_name slots → l ≡ sorted_by (is_before_at names) (filled_from i (drop i (take n slots))) → i ≤ 0
    → l ≡ slot_sequence slots n
all_placed names slots n i l q inv h =
    let e : i ≡ 0 = omega arith in
    rw (e, q) at inv
