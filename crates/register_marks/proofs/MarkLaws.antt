-- The marks of registers, return by return and turn by turn.
use mathlib.Core.Path.{◌≡◌, refl, sym}
use mathlib.Core.Bool.{Bool, true, false, not, ◌&&◌}
use mathlib.Core.List.{List}
use Prim.Native.Nat.{ℕ, ◌+◌, ◌-◌, ◌≤◌, ◌<◌}
use native.Mathlib.Omega.{arith}
use lib.Dec.{eqb}
use lib.ListN.{length, get_or, take, drop}
use lib.Seq.{get_or-take}
use borrow.Author.Tests.{eq-eqb, ne_eqb, leb-true, not-true, not-false}
use Rattle.row_types.proofs.ListLaws.{every_at}
use Rattle.row_types.proofs.LoopLaws.{rows_cons, rows_end, list_cons}
use Rattle.register_marks.specs.Marked.{is_mark_right, are_marks_right, is_up_to, AreUpTo}

-- is_mark_right
module _ (states : List ℕ) (owner mark : ℕ) where
  pub mark_closed : mark ≡ 0 → true ≡ is_mark_right states owner mark
  unfolding is_mark_right
  mark_closed e = sym (rw (eq-eqb mark 0 e))

  module _ (o : mark ≡ 0 → ⊥) where
    pub mark_other : (mark ≡ 1 → ⊥) → false ≡ is_mark_right states owner mark
    unfolding is_mark_right
    mark_other p = sym (rw (ne_eqb mark 0 o, ne_eqb mark 1 p))

    module _ (p : mark ≡ 1) where
      pub mark_unowned : owner ≡ 0 → false ≡ is_mark_right states owner mark
      unfolding is_mark_right
      mark_unowned q = sym (rw (ne_eqb mark 0 o, eq-eqb mark 1 p, eq-eqb owner 0 q))

      module _ (q : owner ≡ 0 → ⊥) where
        pub mark_pending : get_or states (owner - 1) 0 ≡ 1 → true ≡ is_mark_right states owner mark
        unfolding is_mark_right
        mark_pending r = sym (rw (ne_eqb mark 0 o, eq-eqb mark 1 p, ne_eqb owner 0 q, eq-eqb (get_or states (owner - 1) 0) 1 r))

        pub mark_loading : (get_or states (owner - 1) 0 ≡ 1 → ⊥) → eqb (get_or states (owner - 1) 0) 2 ≡ is_mark_right states owner mark
        unfolding is_mark_right
        mark_loading r = sym (rw (ne_eqb mark 0 o, eq-eqb mark 1 p, ne_eqb owner 0 q, ne_eqb (get_or states (owner - 1) 0) 1 r))

-- are_marks_right: x is what comes of it all
pub low_owner : (owners : List ℕ) (m i : ℕ) → AreUpTo 8 (take m owners) → i < m → get_or owners i 0 ≤ 8
unfolding is_up_to
low_owner owners m i u h =
    let e : get_or (take m owners) i 0 ≡ get_or owners i 0 = get_or-take m owners i 0 h in
    let k = leb-true (get_or (take m owners) i 0) 8 (every_at (is_up_to 8) 0 refl (take m owners) u i) in
    omega (arith, e, k)

module _ (states owners marks : List ℕ) (m i : ℕ) (x : Bool) (inv : are_marks_right states (drop i (take m owners)) (drop i marks) ≡ x) (z : length owners ≡ 32) (y : length marks ≡ 32) (r : m ≤ 32) where
  pub marks_ended : m ≤ i → true ≡ x
  unfolding are_marks_right
  marks_ended h = rw (rows_end owners m i 32 z r h) at inv

  module _ (h : i < m) (t : Bool) (e : t ≡ is_mark_right states (get_or owners i 0) (get_or marks i 0)) where
    turned : (t && are_marks_right states (drop (i + 1) (take m owners)) (drop (i + 1) marks)) ≡ x
    unfolding are_marks_right
    turned = rw (rows_cons 0 owners m i 32 z r h, list_cons 0 marks i (omega arith), ← e) at inv

    pub marks_not : not t ≡ true → false ≡ x
    marks_not o = rw (not-true t o) at turned

    pub marks_turn : not t ≡ false → are_marks_right states (drop (i + 1) (take m owners)) (drop (i + 1) marks) ≡ x
    marks_turn o = rw (not-false t o) at turned
