-- The cases of a kept name and of two, each with what the code knows where it answers as premises; the loops are those over any rows.
use mathlib.Core.Path.{◌≡◌, refl, sym, ap, ◌∙◌}
use mathlib.Core.Bool.{Bool, true, false, not, ◌&&◌, and-false}
use mathlib.Core.List.{List}
use Prim.Native.Nat.{ℕ, ◌+◌, ◌-◌, ◌≤◌, ◌<◌}
use native.Mathlib.Omega.{arith}
use lib.Dec.{eqb}
use lib.ListN.{length, get_or, take, drop}
use lib.Seq.{length-take-le, get_or-take}
use borrow.Author.Tests.{eq-eqb, ne_eqb}
use Rattle.byte_strings.specs.Strings.{run, is_not, same_bytes}
use Rattle.byte_strings.proofs.StringLaws.{run_le, same_equal}
use Rattle.row_types.specs.Lists.{some_row, distinct_rows, trimmed}
use Rattle.row_types.specs.Index.{is_called, is_same_name}
use Rattle.row_types.proofs.LoopLaws.{pairs_turn, pair_alike}

-- a kept name that is s is at least as long, and ends in its last byte
module _ (name s : List ℕ) (e : same_bytes (trimmed name) s ≡ true) where
  same_taken : take (run (is_not 0) name) name ≡ s
  unfolding trimmed
  same_taken = same_equal (trimmed name) s e

  same_run : length s ≡ run (is_not 0) name
  same_run = sym (ap length same_taken) ∙ length-take-le (run (is_not 0) name) name (run_le (is_not 0) name)

  same_long : length s ≤ length name
  same_long = omega (arith, same_run, run_le (is_not 0) name)

  same_last : (length s ≡ 0 → ⊥) → get_or name (length s - 1) 0 ≡ get_or s (length s - 1) 0
  same_last o =
      sym (get_or-take (run (is_not 0) name) name (length s - 1) 0 (omega (arith, same_run, o))) ∙ ap (λ (l : List ℕ). get_or l (length s - 1) 0) same_taken

-- is_called
module _ (s name : List ℕ) where
  pub called_nothing : length s ≡ 0 → false ≡ is_called s name
  unfolding is_called
  called_nothing o = rw (eq-eqb (length s) 0 o)

  pub called_longer : length name < length s → false ≡ is_called s name
  unfolding is_called
  called_longer h = go (same_bytes (trimmed name) s) refl
    where
      go : (t : Bool) → same_bytes (trimmed name) s ≡ t → false ≡ (not (eqb (length s) 0) && same_bytes (trimmed name) s)
      go false e = sym (rw (e, and-false))
      go true e = absurd (omega (arith, h, same_long name s e))

  pub called_other : (length s ≡ 0 → ⊥) → length s ≤ length name → (get_or name (length s - 1) 0 ≡ get_or s (length s - 1) 0 → ⊥) → false ≡ is_called s name
  unfolding is_called
  called_other o h d = go (same_bytes (trimmed name) s) refl
    where
      go : (t : Bool) → same_bytes (trimmed name) s ≡ t → false ≡ (not (eqb (length s) 0) && same_bytes (trimmed name) s)
      go false e = sym (rw (e, and-false))
      go true e = absurd (d (same_last name s e o))

  pub called : (length s ≡ 0 → ⊥) → (v : List ℕ) → v ≡ trimmed name → (b : Bool) → b ≡ same_bytes v s → b ≡ is_called s name
  unfolding is_called
  called o v p b q = rw (ne_eqb (length s) 0 o, ← p, q)

-- are_names_distinct: a is the name at i without its zeros, and no name from i + 1 up to j is a
module _ (l : List (List ℕ)) (x : Bool) (d a : List ℕ) (i j : ℕ) (left : some_row (is_called a) (drop j l) ≡ some_row (is_called a) (drop (i + 1) l)) (e : a ≡ trimmed (get_or l i d))
    (h : i < length l) (inv : distinct_rows is_same_name (drop i l) ≡ x) where
  of_name : some_row (is_same_name (get_or l i d)) (drop j l) ≡ some_row (is_same_name (get_or l i d)) (drop (i + 1) l)
  unfolding is_same_name
  of_name = rw e at left

  pub names_turn : length l ≤ j → distinct_rows is_same_name (drop (i + 1) l) ≡ x
  names_turn k = pairs_turn is_same_name l x d i j h inv of_name k

  pub names_alike : j < length l → (t : Bool) → t ≡ is_called a (get_or l j d) → t ≡ true → false ≡ x
  unfolding is_same_name
  names_alike k t q o = pair_alike is_same_name l x d i j h inv of_name k t (q ∙ ap (λ (s : List ℕ). is_called s (get_or l j d)) e) o
