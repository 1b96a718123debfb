-- A body cut field by field: what is noted, and what is left, are its pieces.
use mathlib.Core.Path.{◌≡◌, refl, sym, ap, ◌∙◌}
use mathlib.Core.Bool.{Bool, true, false, and-false, ◌&&◌}
use mathlib.Core.List.{List, [], ◌++◌, map, map-append, append_assoc, append-nil}
use mathlib.Core.Logic.{⊎_elim}
use Prim.Native.Nat.{ℕ, ◌+◌, ◌-◌, ◌≤◌, ◌<◌}
use native.Mathlib.Numerals.{add-one}
use native.Mathlib.Omega.{arith}
use lib.Dec.{eqb}
use lib.ListN.{length, get_or, take, drop, set, length-append, length-map, get_or-map, drop_of_length-le, length-drop}
use lib.Seq.{take-suc-set, length-take-le, get_or-take, get_or-set_same, get_or-set_other}
use borrow.Author.Tests.{eq-eqb, ne_eqb, eqb-true}
use Rattle.byte_strings.specs.Strings.{is_not, run}
use Rattle.byte_strings.proofs.Flags.{and_first, and_second, both_ways}
use Rattle.byte_strings.proofs.Below.{below_or}
use Rattle.byte_bounds.specs.Bounds.{bytes_in, FitIn, nowhere}
use Rattle.byte_bounds.specs.declared.Bounds.{Bounds}
use Rattle.byte_pieces.specs.Pieces.{pieces, is_ended}
use Rattle.byte_pieces.proofs.PieceLaws.{no_piece, next_piece, next_ended}
use Rattle.byte_pieces.proofs.Joined.{some_piece}
use Rattle.record_parser.specs.Records.{field, AreFields}

-- the first n fields of b are noted, and the next one starts at `at`
pub record Cut (d : ℕ) (b : List ℕ) (fields : List Bounds) (at n : ℕ) : Type 0 where
  pub noted : map (bytes_in b) (take n fields) ++ pieces d (drop at b) ≡ pieces d b
  pub fits : (i : ℕ) → i < n → FitIn (length b) (get_or fields i nowhere)
  pub ends : is_ended d (drop at b) ≡ is_ended d b

pub cut_starts : (d : ℕ) (b : List ℕ) (fields : List Bounds) → Cut d b fields 0 0
cut_starts d b fields = record { noted = refl; fits = λ i h. absurd (omega arith); ends = refl }

-- so many fields, each ended by the delimiter
abbrev pub is_cut : ℕ → ℕ → List ℕ → Bool
is_cut d count b = is_ended d b && eqb (length (pieces d b)) (count + 1)

module _ (d : ℕ) (b : List ℕ) (fields : List Bounds) (at n count : ℕ) (z : length fields ≡ 6) (r : count ≤ 5) (w : Cut d b fields at n) where
  counted : n ≤ 6 → length (pieces d b) ≡ n + length (pieces d (drop at b))
  counted h =
      let k : length (map (bytes_in b) (take n fields)) ≡ n = length-map (take n fields) (bytes_in b) ∙ length-take-le n fields (omega arith) in
      sym (ap length w.noted) ∙ length-append (map (bytes_in b) (take n fields)) (pieces d (drop at b)) ∙ rw k

  module _ (h : n ≤ count) (k : at ≤ length b) (e : ℕ) (p : e ≡ at + run (is_not d) (drop at b)) where
    pub too_few : length b ≤ e → false ≡ is_cut d count b
    too_few l =
        let q : length (pieces d (drop at b)) ≡ 0 = ap length (no_piece d b at e p k l) in
        let o = counted (omega arith) in
        rw (ne_eqb (length (pieces d b)) (count + 1) (λ y. omega arith)) (sym (and-false (is_ended d b)))

    pub cut_turn : e < length b → Cut d b (set fields n (record { start = at; end = e })) (e + 1) (n + 1)
    cut_turn l =
        let x : Bounds = record { start = at; end = e } in
        let m : n < length fields = omega arith in
        record {
          noted =
              rw (add-one, take-suc-set fields n x m, map-append, append_assoc)
              (rw (next_piece d b at e p l) at w.noted);
          fits = λ i j. ⊎_elim
              (λ (o : i < n). rw (get_or-set_other fields n i x nowhere (λ q. omega arith)) (w.fits i o))
              (λ (o : n ≤ i). let q : i ≡ n = omega arith in rw (q, get_or-set_same fields n x nowhere m) (omega arith, omega arith))
              (below_or i n);
          ends = sym (next_ended d b at e p l) ∙ w.ends;
        }

  -- all are noted: the record is cut where nothing is left
  module _ (h : count < n) (g : n ≤ count + 1) where
    at_end : eqb at (length b) ≡ true → drop at b ≡ []
    at_end e = drop_of_length-le b {i = at} (let q = eqb-true at (length b) e in omega arith)

    pub all_fields : eqb at (length b) ≡ true → AreFields d count fields b
    unfolding AreFields field
    all_fields e i j =
        let m : i < n = omega arith in
        let a : map (bytes_in b) (take n fields) ≡ pieces d b = rw (at_end e, append-nil) at w.noted in (
          w.fits i m,
          ap (bytes_in b) (sym (get_or-take n fields i nowhere m)) ∙ sym (get_or-map (bytes_in b) (take n fields) i nowhere)
              ∙ ap (λ (l : List (List ℕ)). get_or l i []) a,
        )

    pub all_cut : at ≤ length b → eqb at (length b) ≡ is_cut d count b
    all_cut k = both_ways (eqb at (length b)) (is_cut d count b) whole nothing_left
      where
        whole : eqb at (length b) ≡ true → is_cut d count b ≡ true
        whole e =
            let q : length (pieces d (drop at b)) ≡ 0 = ap (λ (l : List ℕ). length (pieces d l)) (at_end e) in
            let c = counted (omega arith) in
            rw (← w.ends, at_end e, eq-eqb (length (pieces d b)) (count + 1) (omega arith))

        nothing_left : is_cut d count b ≡ true → eqb at (length b) ≡ true
        nothing_left e =
            let c = counted (omega arith) in
            let f = eqb-true (length (pieces d b)) (count + 1) (and_second (is_ended d b) (eqb (length (pieces d b)) (count + 1)) e) in
            let none : length (drop at b) ≡ 0 =
            ⊎_elim
            (λ (l : 0 < length (drop at b)). absurd (let o = some_piece d (drop at b) (w.ends ∙ and_first (is_ended d b) (eqb (length (pieces d b)) (count + 1)) e) l in omega arith))
            (λ (l : length (drop at b) ≤ 0). omega arith)
            (below_or 0 (length (drop at b))) in
            eq-eqb at (length b) (omega (arith, length-drop at b))
