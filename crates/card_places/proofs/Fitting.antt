-- The entries that patterns tell, and the places of all entries, each law with what the code knows where it answers as premises.
use mathlib.Core.Path.{◌≡◌, refl, sym, ◌∙◌}
use mathlib.Core.Bool.{Bool, true, false, not, cond, ◌&&◌, and-false, and-true}
use mathlib.Core.List.{List, [], ◌∷◌, ◌++◌}
use Prim.Native.Nat.{ℕ, ◌+◌, ◌≤◌, ◌<◌}
use native.Mathlib.Omega.{arith}
use lib.Dec.{T, leb}
use lib.ListN.{length, get_or, take, drop, replicate, length-drop}
use lib.Seq.{get_or-drop, get_or-take}
use borrow.Author.Tests.{le-leb, lt-leb, not-true, not-false}
use Rattle.byte_strings.specs.Texts.{text}
use Rattle.byte_strings.proofs.Flags.{nope, and_first}
use Rattle.text_forms.specs.Forms.{in_form}
use Rattle.text_forms.specs.declared.Form.{Form}
use Rattle.text_forms.specs.declared.Form.TheVariants.{Timestamp, Algorithm, Number, Digits, Hex, Name, Label}
use Rattle.card_entries.specs.Entries.{name_bytes}
use Rattle.card_attributes.specs.Table.{ACT, BDT, CLM, CLU, DKG, IUT, KCV, KEN, KRN, KSL, KTC, SBM, SGC, SGN, ULM, VND, table}
use Rattle.card_stored.specs.Stored.{is_stored}
use Rattle.text_patterns.specs.Patterns.{fits}
use Rattle.text_patterns.proofs.PatternLaws.{fits_append, fits_length}
use Rattle.card_steps.specs.Steps.{starts_with, after, is_long}
use Rattle.card_places.specs.Places.{after_all, after_kept, after_fitting, is_clear}
use Rattle.card_steps.proofs.EntryPlaces.{starts_front}
use Rattle.card_places.proofs.Shapes.{Told, no_more, stamp_shape, is_plain, digits_told, hex_told, number_told, from_zero_told, algorithm_told, stamp_told, name_fits}
use Rattle.card_places.proofs.Rows.{Row, pattern, tests, after_rows, after_rows_lem}
use Rattle.card_steps.proofs.Stands.{stands_not, past_stays}
use Rattle.card_places.proofs.Stands.{stored_after}

-- the attributes whose values have one length
abbrev row : (n : ℕ) → T (is_plain n) → (f : Form) (shape : List ℕ) (test : List ℕ → Bool) → is_long f (length shape) ≡ true → Told f shape test → Row
row n p f shape test l t = record { name = n; form = f; shape = shape; test = test; plain = p; long = l; told = t }

abbrev first : List Row
first =
    row ACT tt Timestamp stamp_shape (in_form Timestamp) refl stamp_told
    ∷ row BDT tt Timestamp stamp_shape (in_form Timestamp) refl stamp_told
    ∷ row CLM tt (Hex 8) (replicate 8 70) no_more refl (hex_told 8)
    ∷ row CLU tt (Number 1 0 0) (48 ∷ []) no_more refl (from_zero_told 0 (omega arith))
    ∷ row DKG tt Algorithm (text "04") (in_form Algorithm) refl algorithm_told
    ∷ row IUT tt Timestamp stamp_shape (in_form Timestamp) refl stamp_told
    ∷ row KCV tt (Hex 6) (replicate 6 70) no_more refl (hex_told 6)
    ∷ []

abbrev revision : List Row
revision = row KRN tt (Number 1 1 9) (57 ∷ []) (λ (v : List ℕ). leb 49 (get_or v 0 0)) refl (number_told 1 9 (omega arith)) ∷ []

abbrev level : List Row
level =
    row KTC tt (Number 1 0 3) (51 ∷ []) no_more refl (from_zero_told 3 (omega arith))
    ∷ row SBM tt (Hex 4) (replicate 4 70) no_more refl (hex_told 4)
    ∷ []

abbrev group : List Row
group = row SGC tt (Digits 10) (replicate 10 57) no_more refl (digits_told 10) ∷ []

-- after_fitting
module _ (p s : List ℕ) (at : ℕ) where
  fits_short : 0 < length p → length s < at + length p → false ≡ fits p (drop at s)
  fits_short k h = go (fits p (drop at s)) refl
    where
      go : (t : Bool) → fits p (drop at s) ≡ t → false ≡ t
      go false e = refl
      go true e = absurd (omega (arith, fits_length p (drop at s) e, length-drop at s))

  pub no_room : 0 < length p → length s < at + length p → length s + 1 ≡ after_fitting p s at
  unfolding after_fitting
  no_room k h = rw (← fits_short k h)

  module _ (r : Bool) (e : r ≡ fits p (drop at s)) where
    pub no_fit : not r ≡ true → length s + 1 ≡ after_fitting p s at
    unfolding after_fitting
    no_fit o = rw (← e, not-true r o)

    pub a_fit : not r ≡ false → at + length p ≡ after_fitting p s at
    unfolding after_fitting
    a_fit o = rw (← e, not-false r o)

pub ruleset fitting_cases = (no_room, no_fit, a_fit)

-- what rows tell, and what is asked of their values besides
module _ (rs : List Row) (s : List ℕ) (at : ℕ) where
  pub rows_told : tests rs s at ≡ true → after_fitting (pattern rs) s at ≡ after_rows rs s at
  unfolding after_fitting
  rows_told t = sym (after_rows_lem s rs at ∙ rw (t, and-true (fits (pattern rs) (drop at s))))

  rows_out : tests rs s at ≡ false → length s + 1 ≡ after_rows rs s at
  rows_out t = sym (after_rows_lem s rs at ∙ rw (t, and-false (fits (pattern rs) (drop at s))))

  rows_apart : fits (pattern rs) (drop at s) ≡ false → length s + 1 ≡ after_rows rs s at
  rows_apart t = sym (after_rows_lem s rs at ∙ rw t)

-- after_revision
module _ (s : List ℕ) (at end : ℕ) (e : end ≡ after_fitting (pattern revision) s at) where
  its_test : tests revision s at ≡ leb 49 (get_or s (at + 3) 0)
  its_test =
      let i : at + 3 + 0 ≡ at + 3 = omega arith in
      let d : get_or (take 1 (drop (at + 3) s)) 0 0 ≡ get_or s (at + 3) 0 = get_or-take 1 (drop (at + 3) s) 0 0 (omega arith) ∙ get_or-drop (at + 3) s 0 0 ∙ rw i in
      rw d (and-true (leb 49 (get_or s (at + 3) 0)))

  its_end : (t : Bool) → fits (pattern revision) (drop at s) ≡ t → end ≡ cond t (at + 5) (length s + 1)
  unfolding after_fitting
  its_end t p = e ∙ rw p

  pub no_revision : length s < end → length s + 1 ≡ after KRN (Number 1 1 9) s at
  no_revision h = go (fits (pattern revision) (drop at s)) refl
    where
      go : (t : Bool) → fits (pattern revision) (drop at s) ≡ t → length s + 1 ≡ after KRN (Number 1 1 9) s at
      go true p = absurd (omega (arith, its_end true p, fits_length (pattern revision) (drop at s) p, length-drop at s))
      go false p = rows_apart revision s at p

  module _ (h : end ≤ length s) where
    pub revision_index : at + 3 < length s
    revision_index = go (fits (pattern revision) (drop at s)) refl
      where
        go : (t : Bool) → fits (pattern revision) (drop at s) ≡ t → at + 3 < length s
        go true p = omega (arith, its_end true p)
        go false p = absurd (omega (arith, its_end false p))

    pub revision_zero_lem : get_or s (at + 3) 0 < 49 → length s + 1 ≡ after KRN (Number 1 1 9) s at
    revision_zero_lem k = rows_out revision s at (its_test ∙ lt-leb 49 (get_or s (at + 3) 0) k)

    pub revision_stands : 49 ≤ get_or s (at + 3) 0 → end ≡ after KRN (Number 1 1 9) s at
    revision_stands k = e ∙ rows_told revision s at (its_test ∙ le-leb 49 (get_or s (at + 3) 0) k)

pub ruleset revision_cases = (no_revision, revision_zero_lem, revision_stands)

-- after_first: e is the place of the eighth entry, or one beyond the end where there are no eight
abbrev named : List ℕ
named = pattern first ++ name_bytes KEN

abbrev Eighth : List ℕ → ℕ → Type 0
Eighth s e = after KEN (Number 3 0 255) s e ≡ after_all (take 8 table) s 0

module _ (s : List ℕ) where
  no_eight : (fits named (drop 0 s) && tests first s 0) ≡ false → Eighth s (length s + 1)
  unfolding table
  no_eight o = go (fits (pattern first) (drop 0 s) && tests first s 0) refl (starts_with KEN (Number 3 0 255) (drop 93 s)) refl
    where
      go : (t : Bool) → (fits (pattern first) (drop 0 s) && tests first s 0) ≡ t → (u : Bool) → starts_with KEN (Number 3 0 255) (drop 93 s) ≡ u
          → after KEN (Number 3 0 255) s (length s + 1) ≡ after KEN (Number 3 0 255) s (after_rows first s 0)
      go false p u q = rw (after_rows_lem s first 0, p)
      go true p false q = rw (after_rows_lem s first 0, p) (past_stays s KEN (Number 3 0 255) ∙ stands_not KEN (Number 3 0 255) s 93 q)
      go true p true q =
          let n = name_fits KEN tt (drop 93 s) (starts_front KEN (Number 3 0 255) (drop 93 s) q (omega arith)) in
          let w : (fits named (drop 0 s) && tests first s 0) ≡ true = rw (fits_append (pattern first) (name_bytes KEN) (drop 0 s), n, and-true (fits (pattern first) (drop 0 s))) p in
          nope (cc)

  untested : tests first s 0 ≡ false → Eighth s (length s + 1)
  untested t = no_eight (rw t (and-false (fits named (drop 0 s))))

  pub short_card : length s < 96 → Eighth s (length s + 1)
  short_card h = no_eight (rw (← fits_short named s 0 (omega arith) h))

  module _ (r : Bool) (e : r ≡ fits named (drop 0 s)) where
    pub other_card_lem : not r ≡ true → Eighth s (length s + 1)
    other_card_lem o = no_eight (rw (← e, not-true r o))

    module _ (i : not r ≡ false) (a : Bool) (f : a ≡ in_form Timestamp (take 16 (drop 3 s))) where
      pub act_out : not a ≡ true → Eighth s (length s + 1)
      act_out o = untested (rw (← f, not-true a o))

      module _ (j : not a ≡ false) (b : Bool) (g : b ≡ in_form Timestamp (take 16 (drop 23 s))) where
        pub bdt_out : not b ≡ true → Eighth s (length s + 1)
        bdt_out o = untested (rw (← f, not-false a j, ← g, not-true b o))

        module _ (k : not b ≡ false) (c : Bool) (h : c ≡ in_form Algorithm (take 2 (drop 60 s))) where
          pub dkg_out : not c ≡ true → Eighth s (length s + 1)
          dkg_out o = untested (rw (← f, not-false a j, ← g, not-false b k, ← h, not-true c o))

          module _ (l : not c ≡ false) (d : Bool) (m : d ≡ in_form Timestamp (take 16 (drop 66 s))) where
            pub iut_out : not d ≡ true → Eighth s (length s + 1)
            iut_out o = untested (rw (← f, not-false a j, ← g, not-false b k, ← h, not-false c l, ← m, not-true d o))

            pub seven_stand : not d ≡ false → Eighth s 93
            unfolding table
            seven_stand o =
                let t : tests first s 0 ≡ true = rw (← f, not-false a j, ← g, not-false b k, ← h, not-false c l, ← m, not-false d o) in
                let p = sym (fits_append (pattern first) (name_bytes KEN) (drop 0 s)) ∙ sym e ∙ not-false r i in
                rw (after_rows_lem s first 0, t, and_first (fits (pattern first) (drop 0 s)) (fits (name_bytes KEN) (drop 93 (drop 0 s))) p)

pub ruleset first_cases = (short_card, other_card_lem, act_out, bdt_out, dkg_out, iut_out, seven_stand)

-- find_places: the places of the entries, one after the other
module _ (s : List ℕ) (ken : ℕ) (a : Eighth s ken) (krn : ℕ) (b : krn ≡ after KEN (Number 3 0 255) s ken) where
  pub krn_place : krn ≡ after_all (take 8 table) s 0
  krn_place = b ∙ a

  module _ (ksl : ℕ) (c : ksl ≡ after KRN (Number 1 1 9) s krn) where
    pub ksl_place : ksl ≡ after_all (take 9 table) s 0
    unfolding table
    ksl_place = rw (c, b, a)

    module _ (ktc : ℕ) (d : ktc ≡ after KSL Name s ksl) where
      pub ktc_place : ktc ≡ after_all (take 10 table) s 0
      unfolding table
      ktc_place = rw (d, c, b, a)

      module _ (sgc : ℕ) (e : sgc ≡ after_fitting (pattern level) s ktc) where
        pub sgc_place : sgc ≡ after_all (take 12 table) s 0
        unfolding table
        sgc_place = e ∙ rows_told level s ktc refl ∙ rw (d, c, b, a)

        module _ (sgn : ℕ) (f : sgn ≡ after_fitting (pattern group) s sgc) where
          sgn_place : sgn ≡ after_all (take 13 table) s 0
          unfolding table
          sgn_place = f ∙ rows_told group s sgc refl ∙ rw sgc_place

          module _ (vnd : ℕ) (h : vnd ≡ after ULM (Number 9 0 999999999) s (after_kept SGN (Label 24) s sgn))
              (end : ℕ) (i : end ≡ after VND (Number 9 0 999999999) s vnd) where
            pub is_stored_lem : (r : Bool) → r ≡ is_clear s end → r ≡ is_stored s
            unfolding table
            is_stored_lem r q = stored_after s end (rw (i, h, sgn_place)) r q
