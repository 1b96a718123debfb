-- A byte string cut at a delimiter, piece by piece: the first one, and what follows it.
use mathlib.Core.Path.{◌≡◌, refl, sym, ap, ◌∙◌}
use mathlib.Core.Bool.{Bool, true, false, cond, not}
use mathlib.Core.List.{List, [], ◌∷◌, ◌++◌}
use Prim.Native.Nat.{ℕ, ◌+◌, ◌-◌, ◌≤◌, ◌<◌}
use native.Mathlib.Numerals.{add-one}
use native.Mathlib.Omega.{arith}
use lib.Dec.{eqb}
use lib.ListN.{length, take, drop, length-drop}
use lib.Seq.{drop-drop}
use borrow.Author.Tests.{eq-eqb}
use Rattle.byte_strings.specs.Strings.{is_not, run, all_of}
use Rattle.byte_pieces.specs.Pieces.{onto, pieces, is_ended}
use Rattle.byte_strings.proofs.Flags.{and_first, and_second}
use Rattle.byte_strings.proofs.StringLaws.{run_le}

-- the first piece of a list that has a delimiter, and what follows it; t is whether the list starts with the delimiter
module _ (d b : ℕ) (bs : List ℕ) where
  first_of : (t : Bool) → eqb b d ≡ t → run (is_not d) (b ∷ bs) < length (b ∷ bs)
      → (run (is_not d) bs < length bs → pieces d bs ≡ take (run (is_not d) bs) bs ∷ pieces d (drop (run (is_not d) bs + 1) bs))
      → pieces d (b ∷ bs) ≡ take (run (is_not d) (b ∷ bs)) (b ∷ bs) ∷ pieces d (drop (run (is_not d) (b ∷ bs) + 1) (b ∷ bs))
  first_of true e h ih = rw e
  first_of false e h ih =
      let l : run (is_not d) bs < length bs = let m = rw e at h in omega arith in
      rw (e, ih l, add-one, add-one)

  none_of : (t : Bool) → eqb b d ≡ t → run (is_not d) (b ∷ bs) ≡ length (b ∷ bs)
      → (run (is_not d) bs ≡ length bs → pieces d bs ≡ []) → pieces d (b ∷ bs) ≡ []
  none_of true e h ih = absurd (let m = rw e at h in omega arith)
  none_of false e h ih =
      let l : run (is_not d) bs ≡ length bs = let m = rw e at h in omega arith in
      rw (e, ih l)

pub pieces_first : (d : ℕ) (s : List ℕ) → run (is_not d) s < length s → pieces d s ≡ take (run (is_not d) s) s ∷ pieces d (drop (run (is_not d) s + 1) s)
pieces_first d [] h = absurd (omega arith)
pieces_first d (b ∷ bs) h = first_of d b bs (eqb b d) refl h (pieces_first d bs)

pub pieces_none : (d : ℕ) (s : List ℕ) → run (is_not d) s ≡ length s → pieces d s ≡ []
pieces_none d [] h = refl
pieces_none d (b ∷ bs) h = none_of d b bs (eqb b d) refl h (pieces_none d bs)

-- whether a list is ended, by its first piece
ended_of : (d b : ℕ) (bs : List ℕ) (t : Bool) → eqb b d ≡ t → run (is_not d) (b ∷ bs) < length (b ∷ bs)
    → (run (is_not d) bs < length bs → is_ended d bs ≡ is_ended d (drop (run (is_not d) bs + 1) bs))
    → is_ended d (b ∷ bs) ≡ is_ended d (drop (run (is_not d) (b ∷ bs) + 1) (b ∷ bs))
ended_of d b [] true e h ih = rw e
ended_of d b (c ∷ cs) true e h ih = rw e
ended_of d b [] false e h ih = absurd (let m = rw e at h in omega arith)
ended_of d b (c ∷ cs) false e h ih =
    let l : run (is_not d) (c ∷ cs) < length (c ∷ cs) = let m = rw e at h in omega arith in
    rw (e, add-one) (ih l ∙ rw add-one)

open_of : (d b : ℕ) (bs : List ℕ) (t : Bool) → eqb b d ≡ t → run (is_not d) (b ∷ bs) ≡ length (b ∷ bs)
    → (run (is_not d) bs ≡ length bs → 0 < length bs → is_ended d bs ≡ false) → is_ended d (b ∷ bs) ≡ false
open_of d b bs true e h ih = absurd (let m = rw e at h in omega arith)
open_of d b [] false e h ih = e
open_of d b (c ∷ cs) false e h ih =
    let l : run (is_not d) (c ∷ cs) ≡ length (c ∷ cs) = let m = rw e at h in omega arith in
    ih l (omega arith)

ended_first : (d : ℕ) (s : List ℕ) → run (is_not d) s < length s → is_ended d s ≡ is_ended d (drop (run (is_not d) s + 1) s)
ended_first d [] h = absurd (omega arith)
ended_first d (b ∷ bs) h = ended_of d b bs (eqb b d) refl h (ended_first d bs)

ended_none : (d : ℕ) (s : List ℕ) → run (is_not d) s ≡ length s → 0 < length s → is_ended d s ≡ false
ended_none d [] h l = absurd (omega arith)
ended_none d (b ∷ bs) h l = open_of d b bs (eqb b d) refl h (ended_none d bs)

-- the piece from `at` to e
module _ (d : ℕ) (s : List ℕ) (at e : ℕ) (p : e ≡ at + run (is_not d) (drop at s)) where
  pub run_here : run (is_not d) (drop at s) ≡ e - at
  run_here = omega arith

  pub no_piece : at ≤ length s → length s ≤ e → pieces d (drop at s) ≡ []
  no_piece k h = pieces_none d (drop at s) (omega (arith, length-drop at s, run_le (is_not d) (drop at s)))

  pub next_piece : e < length s → pieces d (drop at s) ≡ take (e - at) (drop at s) ∷ pieces d (drop (e + 1) s)
  next_piece h =
      let l : run (is_not d) (drop at s) < length (drop at s) = omega (arith, length-drop at s) in
      let k : at + (e - at + 1) ≡ e + 1 = omega arith in
      pieces_first d (drop at s) l ∙ rw (run_here, drop-drop, k)

  pub not_ended : at < length s → length s ≤ e → is_ended d (drop at s) ≡ false
  not_ended k h = ended_none d (drop at s) (omega (arith, length-drop at s, run_le (is_not d) (drop at s))) (omega (arith, length-drop at s))

  pub next_ended : e < length s → is_ended d (drop at s) ≡ is_ended d (drop (e + 1) s)
  next_ended h =
      let l : run (is_not d) (drop at s) < length (drop at s) = omega (arith, length-drop at s) in
      let k : at + (e - at + 1) ≡ e + 1 = omega arith in
      ended_first d (drop at s) l ∙ rw (run_here, drop-drop, k)

-- a piece that is written is read, and what stands after it
not_false : (t : Bool) → not t ≡ true → t ≡ false
not_false true e = sym e
not_false false e = refl

pub pieces_cons : (d : ℕ) (p u : List ℕ) → all_of (is_not d) p ≡ true → pieces d (p ++ (d ∷ u)) ≡ p ∷ pieces d u
pieces_cons d [] u h = rw (eq-eqb d d refl)
pieces_cons d (b ∷ bs) u h =
    rw (not_false (eqb b d) (and_first (is_not d b) (all_of (is_not d) bs) h), pieces_cons d bs u (and_second (is_not d b) (all_of (is_not d) bs) h))

-- and the list is ended where what follows it is
ended_after : (d b : ℕ) (u : List ℕ) → eqb b d ≡ true → is_ended d (b ∷ u) ≡ is_ended d u
ended_after d b [] e = e
ended_after d b (c ∷ cs) e = refl

ended_skip : (d b c : ℕ) (p u : List ℕ) → is_ended d (b ∷ (p ++ (c ∷ u))) ≡ is_ended d (p ++ (c ∷ u))
ended_skip d b c [] u = refl
ended_skip d b c (x ∷ xs) u = refl

pub ended_cons : (d : ℕ) (p u : List ℕ) → is_ended d (p ++ (d ∷ u)) ≡ is_ended d u
ended_cons d [] u = ended_after d d u (eq-eqb d d refl)
ended_cons d (b ∷ bs) u = ended_skip d b d bs u ∙ ended_cons d bs u

-- what holds no delimiter is no piece, wherever it follows
pub pieces_open : (d : ℕ) (p u : List ℕ) → pieces d u ≡ [] → pieces d (p ++ u) ≡ pieces d p
pieces_open d [] u e = e
pieces_open d (b ∷ p) u e = ap (λ (ps : List (List ℕ)). cond (eqb b d) ([] ∷ ps) (onto b ps)) (pieces_open d p u e)
