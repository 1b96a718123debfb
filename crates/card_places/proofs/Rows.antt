-- Entries one after the other, each with a value of one length: they stand where one pattern fits, and each value passes what is asked of it besides.
use mathlib.Core.Path.{◌≡◌, refl, sym, ap, ◌∙◌}
use mathlib.Core.Bool.{Bool, true, false, cond, ◌&&◌}
use mathlib.Core.List.{List, [], ◌∷◌, ◌++◌}
use Prim.Native.Nat.{ℕ, ◌+◌, ◌≤◌, ◌<◌}
use native.Mathlib.Omega.{arith}
use lib.Dec.{T}
use lib.ListN.{length, get_or, take, drop, length-drop, length-append}
use lib.Seq.{drop-drop, length-take-le, get_or-drop}
use borrow.Author.Tests.{eqb-true}
use Rattle.byte_strings.proofs.Flags.{nope, and_first, and_second, and_both, both_ways}
use Rattle.text_forms.specs.Forms.{in_form}
use Rattle.text_forms.specs.declared.Form.{Form}
use Rattle.card_entries.specs.Entries.{entry_length, name_bytes}
use Rattle.text_patterns.specs.Patterns.{fits_byte, fits}
use Rattle.text_patterns.proofs.PatternLaws.{fits_itself, fits_front, fits_append, fits_length}
use Rattle.card_steps.specs.Steps.{starts_with, after, is_long}
use Rattle.card_steps.proofs.EntryPlaces.{Framed, behind, framed_entry, entry_long, entry_framed}
use Rattle.card_places.proofs.Shapes.{Told, is_plain, plain_some, name_fits, fits_name_lem}
use Rattle.card_steps.proofs.Stands.{stands, stands_not, past_stays}

-- an attribute with the shape of its values
pub record Row : Type 0 where
  pub name : ℕ
  pub form : Form
  pub shape : List ℕ
  pub test : List ℕ → Bool
  pub plain : T (is_plain name)
  pub long : is_long form (length shape) ≡ true
  pub told : Told form shape test

abbrev pub entry_pattern : Row → List ℕ
entry_pattern r = name_bytes r.name ++ (r.shape ++ (59 ∷ []))

-- one entry
module _ (r : Row) (t : List ℕ) where
  abbrev size : ℕ
  size = length r.shape

  abbrev value : List ℕ
  value = take size (drop 3 t)

  some : 0 < r.name
  some = plain_some r.name r.plain

  pattern_length : length (entry_pattern r) ≡ size + 4
  pattern_length = omega (arith, length-append r.shape (59 ∷ []))

  pattern_parts : fits (entry_pattern r) t ≡ (fits (name_bytes r.name) t && (fits r.shape value && fits (59 ∷ []) (drop size (drop 3 t))))
  pattern_parts =
      fits_append (name_bytes r.name) (r.shape ++ (59 ∷ [])) t
      ∙ rw (fits_append r.shape (59 ∷ []) (drop 3 t), fits_front r.shape (drop 3 t)) refl

  value_length : size + 4 ≤ length t → length value ≡ size
  value_length l = length-take-le size (drop 3 t) (omega (arith, length-drop 3 t))

  entry_fits : starts_with r.name r.form t ≡ true → (fits (entry_pattern r) t && r.test value) ≡ true
  unfolding fits_byte
  entry_fits e =
      let q = entry_framed r.name some r.form size r.long t e in
      let w = sym (r.told value (value_length q.room)) ∙ q.value in
      let x = name_fits r.name r.plain t q.named in
      let z : fits (59 ∷ []) (drop size (drop 3 t)) ≡ true = rw (behind r.name some r.form size t q) in
      and_both (fits (entry_pattern r) t) (r.test value)
      (pattern_parts ∙ rw (x, and_first (fits r.shape value) (r.test value) w, z))
      (and_second (fits r.shape value) (r.test value) w)

  semicolon : (u : List ℕ) → fits (59 ∷ []) u ≡ true → get_or u 0 0 ≡ 59
  semicolon [] e = nope (cc)
  semicolon (b ∷ u) e = sym (eqb-true 59 b (sym (fits_itself 59 b refl refl) ∙ and_first (fits_byte 59 b) true e))

  module _ (e : (fits (entry_pattern r) t && r.test value) ≡ true) where
    abbrev ending : Bool
    ending = fits (59 ∷ []) (drop size (drop 3 t))

    all_fit : (fits (name_bytes r.name) t && (fits r.shape value && ending)) ≡ true
    all_fit = sym pattern_parts ∙ and_first (fits (entry_pattern r) t) (r.test value) e

    value_fits : (fits r.shape value && ending) ≡ true
    value_fits = and_second (fits (name_bytes r.name) t) (fits r.shape value && ending) all_fit

    entry_room : size + 4 ≤ length t
    entry_room = omega (arith, pattern_length, fits_length (entry_pattern r) t (and_first (fits (entry_pattern r) t) (r.test value) e))

    entry_ended : get_or t (size + 3) 0 ≡ 59
    entry_ended =
        let i : 3 + (size + 0) ≡ size + 3 = omega arith in
        rw (← i, ← get_or-drop 3 t (size + 0) 0, ← get_or-drop size (drop 3 t) 0 0) (semicolon (drop size (drop 3 t)) (and_second (fits r.shape value) ending value_fits))

    entry_value_lem : in_form r.form value ≡ true
    entry_value_lem =
        r.told value (value_length entry_room)
        ∙ and_both (fits r.shape value) (r.test value) (and_first (fits r.shape value) ending value_fits) (and_second (fits (entry_pattern r) t) (r.test value) e)

    fits_framed : Framed r.name r.form size t
    fits_framed =
        record {
          room = entry_room;
          named = fits_name_lem r.name r.plain t (and_first (fits (name_bytes r.name) t) (fits r.shape value && ending) all_fit);
          ended = entry_ended;
          value = entry_value_lem;
        }

  row_starts : starts_with r.name r.form t ≡ (fits (entry_pattern r) t && r.test value)
  row_starts =
      both_ways (starts_with r.name r.form t) (fits (entry_pattern r) t && r.test value) entry_fits
      (λ e. framed_entry r.name some r.form size t (fits_framed e))

  row_long : starts_with r.name r.form t ≡ true → entry_length t ≡ size + 3
  row_long e = entry_long r.name some r.form size r.long t e

-- entries one after the other from a place on
abbrev pub pattern : List Row → List ℕ
pattern [] = []
pattern (r ∷ rs) = entry_pattern r ++ pattern rs

abbrev pub tests : List Row → List ℕ → ℕ → Bool
tests [] s at = true
tests (r ∷ rs) s at = r.test (take (length r.shape) (drop (at + 3) s)) && tests rs s (at + (length r.shape + 4))

abbrev pub after_rows : List Row → List ℕ → ℕ → ℕ
after_rows [] s at = at
after_rows (r ∷ rs) s at = after_rows rs s (after r.name r.form s at)

module _ (s : List ℕ) where
  rows_past : (rs : List Row) → after_rows rs s (length s + 1) ≡ length s + 1
  rows_past [] = refl
  rows_past (r ∷ rs) = rw (past_stays s r.name r.form) (rows_past rs)

  -- the first of them, and then the others
  module _ (r : Row) (rs : List Row) (at : ℕ) where
    abbrev next : ℕ
    next = at + (length r.shape + 4)

    abbrev starts : Bool
    starts = starts_with r.name r.form (drop at s)

    rows_fit : (fits (pattern (r ∷ rs)) (drop at s) && tests (r ∷ rs) s at) ≡ (starts && (fits (pattern rs) (drop next s) && tests rs s next))
    rows_fit =
        let n : at + length (entry_pattern r) ≡ next = omega (arith, pattern_length r s) in
        let d : drop (length (entry_pattern r)) (drop at s) ≡ drop next s = drop-drop (length (entry_pattern r)) at s ∙ ap (λ (k : ℕ). drop k s) n in
        let v : drop (at + 3) s ≡ drop 3 (drop at s) = sym (drop-drop 3 at s) in
        let x = r.test (take (length r.shape) (drop 3 (drop at s))) in
        rw (fits_append (entry_pattern r) (pattern rs) (drop at s), d, v, row_starts r (drop at s)) (four (fits (entry_pattern r) (drop at s)) (fits (pattern rs) (drop next s)) x (tests rs s next))
      where
        four : (a b x y : Bool) → ((a && b) && (x && y)) ≡ ((a && x) && (b && y))
        four true b true y = refl
        four true true false y = refl
        four true false false y = refl
        four false b x y = refl

    row_after : starts ≡ true → after r.name r.form s at ≡ next
    row_after e = omega (arith, stands r.name r.form s at e (length r.shape + 3) (row_long r (drop at s) e))

    rows_length : at + length (pattern (r ∷ rs)) ≡ next + length (pattern rs)
    rows_length = omega (arith, length-append (entry_pattern r) (pattern rs), pattern_length r s)

  pub after_rows_lem : (rs : List Row) (at : ℕ) → after_rows rs s at ≡ cond (fits (pattern rs) (drop at s) && tests rs s at) (at + length (pattern rs)) (length s + 1)
  after_rows_lem [] at = omega arith
  after_rows_lem (r ∷ rs) at = rw (rows_fit r rs at, rows_length r rs at) (go (starts r rs at) refl (after_rows_lem rs (next r rs at)))
    where
      go : (t : Bool) → starts r rs at ≡ t
          → after_rows rs s (next r rs at) ≡ cond (fits (pattern rs) (drop (next r rs at) s) && tests rs s (next r rs at)) (next r rs at + length (pattern rs)) (length s + 1)
          → after_rows rs s (after r.name r.form s at)
          ≡ cond (t && (fits (pattern rs) (drop (next r rs at) s) && tests rs s (next r rs at))) (next r rs at + length (pattern rs)) (length s + 1)
      go true e more = rw (row_after r rs at e) more
      go false e more = rw (← stands_not r.name r.form s at e) (rows_past rs)
