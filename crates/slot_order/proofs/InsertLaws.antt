-- A place put among places that stand in order: the loop stores, from i on, what is left to be stored.
use mathlib.Core.Path.{◌≡◌, sym, ap, ◌∙◌}
use mathlib.Core.Bool.{Bool, true, false, not}
use mathlib.Core.List.{List, [], ◌∷◌, append-nil}
use Prim.Native.Nat.{ℕ, suc, ◌+◌, ◌-◌, ◌≤◌, ◌<◌}
use native.Mathlib.Numerals.{add-one}
use native.Mathlib.Omega.{arith}
use lib.ListN.{length, get_or, drop, set, length-drop, length-set, take-append-drop}
use lib.Seq.{sets, sets-eq, drop-set-lt}
use borrow.Author.Tests.{not-true, not-false}
use Rattle.byte_strings.proofs.Writes.{drop_sets}
use Rattle.byte_orders.specs.Orders.{is_before, inserted_by}
use Rattle.byte_orders.proofs.OrderLaws.{insert_length}
use Rattle.row_types.specs.Lists.{trimmed}
use Rattle.row_types.proofs.LoopLaws.{list_cons, list_end}
use Rattle.row_types.proofs.PlaceCounts.{get_d_any}
use Rattle.slot_order.specs.Sequences.{name_at, is_before_at, are_below}
use Rattle.slot_order.proofs.SequenceLaws.{here_below, later_below}

-- what stands in a list from i on, stored there again
stored_again : (l : List ℕ) (i : ℕ) → i ≤ length l → sets l i (drop i l) ≡ l
stored_again l i h =
    let e : drop (i + length (drop i l)) l ≡ [] = list_end l (i + length (drop i l)) (omega (arith, length-drop i l)) in
    sets-eq (drop i l) l i (omega (arith, length-drop i l)) ∙ rw (e, append-nil) (take-append-drop i l)

-- before the loop all is left
pub all_left : (before : ℕ → ℕ → Bool) (x first : ℕ) (l : List ℕ) → length l ≡ 8 → first < 8
    → drop first (sets l first (inserted_by before x (drop (first + 1) l))) ≡ inserted_by before x (drop (first + 1) l)
all_left before x first l z h =
    let n : length (inserted_by before x (drop (first + 1) l)) ≡ suc (length l - (first + 1)) = insert_length before x (drop (first + 1) l) ∙ ap suc (length-drop (first + 1) l) in
    let e : drop (first + length (inserted_by before x (drop (first + 1) l))) l ≡ [] = list_end l (first + length (inserted_by before x (drop (first + 1) l))) (omega arith) in
    drop_sets l first (inserted_by before x (drop (first + 1) l)) (omega arith) ∙ rw (e, append-nil)

-- the next place is below the count, and so are those after it
module _ (n i : ℕ) (l : List ℕ) (w : are_below n (drop (i + 1) l) ≡ true) (z : length l ≡ 8) (h : i < 7) where
  pub next_below : get_or l (i + 1) 0 < n
  next_below = here_below n (i + 1) l w (omega arith)

  pub rest_below : (x : ℕ) → are_below n (drop (i + 1 + 1) (set l i x)) ≡ true
  rest_below x = rw (drop-set-lt (i + 1 + 1) l i x (omega arith)) (later_below n (i + 1) l w (omega arith))

-- the name at a place, as the code reads it
pub named : (names : List (List ℕ)) (place : ℕ) (d u v : List ℕ) (t : Bool) → place < length names → u ≡ trimmed (get_or names place d) → t ≡ is_before u v → t ≡ is_before (name_at names place) v
named names place d u v t h p o = rw (get_d_any names place [] d h, ← p) o

-- the loop: what is left to be stored from i on makes x of the places
module _ (names : List (List ℕ)) (place first i : ℕ) (after x : List ℕ) (inv : drop first (sets after i (inserted_by (is_before_at names) place (drop (i + 1) after))) ≡ x)
    (z : length after ≡ 8) where
  pub last_placed : 7 ≤ i → i ≤ 7 → drop first (set after 7 place) ≡ x
  last_placed h k =
      let e : i ≡ 7 = omega arith in
      let q : drop (i + 1) after ≡ [] = list_end after (i + 1) (omega arith) in
      rw e at (rw q at inv)

  -- v is the name of the place
  module _ (h : i < 7) (b : place < length names) (d v : List ℕ) (q : v ≡ trimmed (get_or names place d)) (t : Bool) (o : t ≡ is_before (name_at names (get_or after (i + 1) 0)) v) where
    abbrev next : ℕ
    next = get_or after (i + 1) 0

    by_names : is_before_at names next place ≡ t
    unfolding is_before_at
    by_names = rw (o, q, get_d_any names place [] d b)

    next_cons : drop (i + 1) after ≡ next ∷ drop (i + 1 + 1) after
    next_cons = list_cons 0 after (i + 1) (omega arith)

    pub here_placed : not t ≡ true → drop first (set after i place) ≡ x
    here_placed n =
        let e : inserted_by (is_before_at names) place (drop (i + 1) after) ≡ place ∷ drop (i + 1) after = rw (next_cons, by_names, not-true t n) in
        let r : drop (suc i) (set after i place) ≡ drop (suc i) after = drop-set-lt (suc i) after i place (omega arith) in
        let s : sets (set after i place) (suc i) (drop (suc i) (set after i place)) ≡ set after i place = stored_again (set after i place) (suc i) (rw length-set (omega arith)) in
        sym (ap (drop first) (rw r at s)) ∙ (rw (add-one i) at (rw e at inv))

    pub moved_up : not t ≡ false → drop first (sets (set after i next) (i + 1) (inserted_by (is_before_at names) place (drop (i + 1 + 1) (set after i next)))) ≡ x
    moved_up n =
        let e : inserted_by (is_before_at names) place (drop (i + 1) after) ≡ next ∷ inserted_by (is_before_at names) place (drop (i + 1 + 1) after) = rw (next_cons, by_names, not-false t n) in
        rw (drop-set-lt (i + 1 + 1) after i next (omega arith), add-one i) (rw (add-one i) at (rw e at inv))
