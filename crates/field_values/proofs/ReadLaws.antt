-- The cases of the readers, each with what the code knows where it answers as premises.
use mathlib.Core.Path.{◌≡◌, refl, sym, ap, ◌∙◌}
use mathlib.Core.Bool.{Bool, true, false, cond, not}
use mathlib.Core.List.{List, ◌∷◌}
use mathlib.Core.Logic.{◌⊎◌, ⊎_elim}
use Prim.Native.Nat.{ℕ, suc, ◌+◌, ◌-◌, ◌%◌, ◌^◌, ◌≤◌, ◌<◌}
use native.Mathlib.Omega.{arith}
use lib.ListN.{length, get_or, take, drop, drop_of_length-le}
use lib.Seq.{drop-cons}
use native.Mathlib.Numerals.{add-one}
use borrow.Author.Tests.{ne_eqb, not-true, not-false}
use denote.Enum.Declared.{tag_of}
use Rattle.std.specs.Prelude.{Option, is_some}
use Rattle.byte_strings.specs.Strings.{is_not, run}
use Rattle.byte_strings.proofs.Below.{below_or}
use Rattle.byte_pieces.proofs.PieceLaws.{no_piece, next_piece, not_ended, next_ended}
use Rattle.text_classes.specs.Classes.{are_all}
use Rattle.text_classes.specs.declared.Class.TheVariants.{Text, Hexadecimal}
use Rattle.text_decimals.specs.Decimals.{decimal, is_number}
use Rattle.text_decimals.proofs.NumberLaws.{number_short, number_most}
use Rattle.text_timestamps.specs.Timestamps.{date_time_of, is_date_time}
use Rattle.text_timestamps.proofs.MomentLaws.{date_time_moment}
use Rattle.field_values.specs.Values.{Value, number, bad, is_octets, provided, typed, value_of, values_of, first, value_at, after, next_at}
use Rattle.field_values.specs.Bounds.{field_value, Within, number_of, place_after}
use Rattle.field_values.specs.declared.Field.{Field}
use Rattle.field_values.specs.declared.Field.TheVariants as code
use Rattle.field_values.specs.contracts.Field.{the_type}

-- is_octets
module _ (v : List ℕ) where
  pub odd_length : (length v % 2 ≡ 0 → ⊥) → false ≡ is_octets v
  unfolding is_octets
  odd_length o = rw (ne_eqb (length v % 2) 0 o)

  pub even_length : length v % 2 ≡ 0 → (r : Bool) → r ≡ are_all Hexadecimal v → r ≡ is_octets v
  unfolding is_octets
  even_length e r p = rw (e, p)

-- is_date_time
pub date_judged : (v : List ℕ) (m : Option ℕ) → m ≡ date_time_of v → (r : Bool) → r ≡ is_some m → r ≡ is_date_time v
date_judged v m p r q = q ∙ ap is_some p ∙ date_time_moment v

-- number_of
module _ (v : List ℕ) (t : Bool) (p : t ≡ is_number 10 0 2147483647 v) where
  pub no_number : not t ≡ true → code.Bad ≡ number_of v
  unfolding number_of
  no_number o = rw (← p, not-true t o)

  pub a_number : not t ≡ false → (n : ℕ) → n ≡ decimal v → code.Number n ≡ number_of v
  unfolding number_of
  a_number o n e = rw (e, ← p, not-false t o)

  module _ (o : not t ≡ false) where
    pub number_room : length v ≤ 10
    number_room = number_short 10 0 2147483647 v (sym p ∙ not-false t o)

    pub number_small : (n : ℕ) → n ≡ decimal v → n < 2 ^ 32
    number_small n e = omega (arith, number_most 10 0 2147483647 v (sym p ∙ not-false t o))

number_value : (s v : List ℕ) (t : Bool) → field_value s (cond t (code.Number (decimal v)) code.Bad) ≡ provided t (number (decimal v))
number_value s v true = refl
number_value s v false = refl

number_inside : (n : ℕ) (v : List ℕ) (t : Bool) → Within n (cond t (code.Number (decimal v)) code.Bad)
number_inside n v true = tt
number_inside n v false = tt

-- field_of: k is the type, v the content
module _ (s : List ℕ) (k start end : ℕ) where
  abbrev v : List ℕ
  v = take (end - start) (drop start s)

  pub of_number : k ≡ 78 → (r : Field) → r ≡ number_of v → field_value s r ≡ typed k v
  unfolding typed number_of
  of_number e r p = rw (e, p) (number_value s v (is_number 10 0 2147483647 v))

  pub number_within : (n : ℕ) (r : Field) → r ≡ number_of v → Within n r
  unfolding number_of
  number_within n r p = rw p (number_inside n v (is_number 10 0 2147483647 v))

  module _ (t : Bool) where
    module _ (e : k ≡ 80) (p : t ≡ are_all Text v) where
      pub of_string : t ≡ true → field_value s (code.Text start end) ≡ typed k v
      unfolding typed
      of_string q = rw (e, ← p, q)

      pub no_string : t ≡ false → field_value s code.Bad ≡ typed k v
      unfolding typed
      no_string q = rw (e, ← p, q)

    module _ (e : k ≡ 68) (p : t ≡ is_date_time v) where
      pub of_date : t ≡ true → field_value s (code.Date start end) ≡ typed k v
      unfolding typed
      of_date q = rw (e, ← p, q)

      pub no_date : t ≡ false → field_value s code.Bad ≡ typed k v
      unfolding typed
      no_date q = rw (e, ← p, q)

    module _ (e : k ≡ 72) (p : t ≡ is_octets v) where
      pub of_octets : t ≡ true → field_value s (code.Octets start end) ≡ typed k v
      unfolding typed
      of_octets q = rw (e, ← p, q)

      pub no_octets : t ≡ false → field_value s code.Bad ≡ typed k v
      unfolding typed
      no_octets q = rw (e, ← p, q)

  pub no_type : (k ≡ 78 → ⊥) → (k ≡ 80 → ⊥) → (k ≡ 68 → ⊥) → (k ≡ 72 → ⊥) → field_value s code.Bad ≡ typed k v
  unfolding typed
  no_type a b c d = rw (ne_eqb k 78 a, ne_eqb k 80 b, ne_eqb k 68 c, ne_eqb k 72 d)

-- next_after
pub after_field : (f : Field) (at e : ℕ) → (tag_of the_type f ≡ 0) ⊎ ((tag_of the_type f ≡ 1) ⊎ ((tag_of the_type f ≡ 2) ⊎ (tag_of the_type f ≡ 3))) → e + 1 ≡ place_after f at e
after_field (code.Number n) at e k = refl
after_field (code.Text a b) at e k = refl
after_field (code.Date a b) at e k = refl
after_field (code.Octets a b) at e k = refl
after_field code.Bad at e k = absurd (⊎_elim (λ (p : 4 ≡ 0). omega arith) (λ l. ⊎_elim (λ (p : 4 ≡ 1). omega arith) (λ m. ⊎_elim (λ (p : 4 ≡ 2). omega arith) (λ (p : 4 ≡ 3). omega arith) m) l) k)

-- the place after a field is that of its value
after_value : (s : List ℕ) (f : Field) (at e : ℕ) → place_after f at e ≡ after (field_value s f) at e
after_value s (code.Number n) at e = refl
after_value s (code.Text a b) at e = refl
after_value s (code.Date a b) at e = refl
after_value s (code.Octets a b) at e = refl
after_value s code.Bad at e = refl

stays : (s : List ℕ) (at : ℕ) → bad ≡ value_at s at → at ≡ next_at s at
unfolding next_at
stays s at e = rw (← e)

-- the fields from a place on, by the piece that ends at e
module _ (s : List ℕ) (at : ℕ) where
  pub none_left : length s ≤ at → bad ≡ value_at s at
  unfolding value_at values_of
  none_left h = rw (drop_of_length-le s {i = at} h)

  pub none_next : length s ≤ at → at ≡ next_at s at
  none_next h = stays s at (none_left h)

  module _ (e : ℕ) (p : e ≡ at + run (is_not 126) (drop at s)) where
    pub not_closed : at < length s → length s ≤ e → bad ≡ value_at s at
    unfolding value_at values_of
    not_closed l h = rw (no_piece 126 s at e p (omega arith) h, not_ended 126 s at e p l h)

    pub open_next : at < length s → length s ≤ e → at ≡ next_at s at
    open_next l h = stays s at (not_closed l h)

    module _ (h : e < length s) where
      pub values_here : values_of (drop at s) ≡ value_of (take (e - at) (drop at s)) ∷ values_of (drop (e + 1) s)
      unfolding values_of
      values_here = rw (next_piece 126 s at e p h, next_ended 126 s at e p h)

      value_here : value_at s at ≡ value_of (take (e - at) (drop at s))
      unfolding value_at
      value_here = ap first values_here

      pub empty_field : e ≡ at → bad ≡ value_at s at
      empty_field q = let z : e - at ≡ 0 = omega arith in sym (value_here ∙ rw z)

      pub empty_next : e ≡ at → at ≡ next_at s at
      empty_next q = stays s at (empty_field q)

      -- the type of a field is its first byte
      module _ (o : e ≡ at → ⊥) where
        pub content_room : at + 1 ≤ e
        content_room = ⊎_elim (λ (l : at < e). let m : at + 1 ≤ e = omega arith in m) (λ (l : e ≤ at). absurd (o (omega arith))) (below_or at e)

        parted : take (e - at) (drop at s) ≡ get_or s at 0 ∷ take (e - (at + 1)) (drop (at + 1) s)
        parted =
            let z : e - at ≡ suc (e - (at + 1)) = omega (arith, content_room) in
            rw (drop-cons s at 0 (omega arith), z, add-one)

        module _ (r : Field) (q : field_value s r ≡ typed (get_or s at 0) (take (e - (at + 1)) (drop (at + 1) s))) where
          pub field_here : field_value s r ≡ value_at s at
          field_here = q ∙ ap value_of (sym parted) ∙ sym value_here

          pub next_here : (n : ℕ) → n ≡ place_after r at e → n ≡ next_at s at
          unfolding next_at
          next_here n k = k ∙ after_value s r at e ∙ ap (λ (v : Value). after v at e) field_here ∙ ap (after (value_at s at) at) p

-- the bounds of a field that was read
module _ (n : ℕ) (f : Field) (w : Within n f) (a e : ℕ) where
  text_both : f ≡ code.Text a e → (a ≤ e) × (e ≤ n)
  text_both p = rw p at w

  date_both : f ≡ code.Date a e → (a ≤ e) × (e ≤ n)
  date_both p = rw p at w

  octets_both : f ≡ code.Octets a e → (a ≤ e) × (e ≤ n)
  octets_both p = rw p at w

  pub text_start : f ≡ code.Text a e → a ≤ e
  text_start p = (text_both p).0

  pub text_end : f ≡ code.Text a e → e ≤ n
  text_end p = (text_both p).1

  pub date_start : f ≡ code.Date a e → a ≤ e
  date_start p = (date_both p).0

  pub date_end : f ≡ code.Date a e → e ≤ n
  date_end p = (date_both p).1

  pub octets_start : f ≡ code.Octets a e → a ≤ e
  octets_start p = (octets_both p).0

  pub octets_end : f ≡ code.Octets a e → e ≤ n
  octets_end p = (octets_both p).1

pub ruleset bound_cases = (text_start, text_end, date_start, date_end, octets_start, octets_end)
