-- In a card as stored, a name's value is what stands in its entry, from three bytes after the entry's place up to the semicolon.
use mathlib.Core.Path.{◌≡◌, refl, sym, ap, ◌∙◌}
use mathlib.Core.Bool.{Bool, true, false, not}
use mathlib.Core.List.{List, [], ◌∷◌, ◌++◌}
use mathlib.Core.Logic.{⊎_elim}
use mathlib.Core.Option.{some}
use Prim.Native.Nat.{ℕ, ◌+◌, ◌-◌, ◌≤◌, ◌<◌}
use native.Mathlib.Omega.{arith}
use lib.Dec.{T, eqb}
use lib.ListN.{length, take, drop, length-drop}
use lib.Seq.{drop-drop, length-take-le, take_all}
use borrow.Author.Tests.{eq-eqb}
use Rattle.byte_strings.proofs.Flags.{and_first, and_left, and_right, no}
use Rattle.byte_strings.proofs.StringLaws.{drop_take}
use Rattle.byte_pieces.specs.Pieces.{pieces}
use Rattle.byte_pieces.proofs.PieceLaws.{pieces_first}
use Rattle.text_forms.specs.declared.Form.{Form}
use Rattle.text_forms.specs.declared.Form.TheVariants.{Number, Digits, Name}
use Rattle.card_entries.specs.Entries.{entry_length, value_in, value_of, or_else}
use Rattle.card_entries.proofs.EntryLaws.{a_name}
use Rattle.card_attributes.specs.Table.{KRN, KSL, SGC, table, always, name, form}
use Rattle.card_attributes.specs.declared.Attribute.{Attribute}
use Rattle.card_attributes.specs.declared.Presence.TheVariants.{Required, Engine}
use Rattle.card_attributes.proofs.TableLaws.{all_rows}
use Rattle.card_stored.specs.Stored.{is_stored}
use Rattle.card_stored.proofs.Sequence.{is_stored_from, stored_walk}
use Rattle.card_steps.specs.Steps.{starts_with, after, is_long}
use Rattle.card_places.specs.Places.{after_all}
use Rattle.card_steps.proofs.EntryPlaces.{starts_short, starts_named, starts_three, entry_long}
use Rattle.card_steps.proofs.Stands.{stands, stands_within}
use Rattle.card_places.proofs.Stands.{first_entry, first_stands}

-- an entry of a name, its value in form, stands at a place
record Stands (n : ℕ) (f : Form) (s : List ℕ) (at : ℕ) : Type 0 where
  within : at ≤ length s
  starts : starts_with n f (drop at s) ≡ true

abbrev entry_value : List ℕ → List ℕ
entry_value t = drop 3 (take (entry_length t) t)

-- the first piece of what starts with an entry
starts_pieces : (n : ℕ) (f : Form) (t : List ℕ) → starts_with n f t ≡ true → pieces 59 t ≡ take (entry_length t) t ∷ pieces 59 (drop (entry_length t + 1) t)
starts_pieces n f t e = pieces_first 59 t (starts_short n f t e)

-- a is behind the attributes ps, none of which has its name
abbrev is_other : Attribute → Attribute → Bool
is_other a b = not (eqb (name b) (name a))

module _ (a : Attribute) (qs : List Attribute) (s : List ℕ) where
  stands_at : (ps : List Attribute) (at : ℕ) → at ≤ length s → is_stored_from (ps ++ (a ∷ qs)) (drop at s) ≡ true → Stands (name a) (form a) s (after_all ps s at)
  stands_at [] at l e = record { within = l; starts = and_first (starts_with (name a) (form a) (drop at s)) _ (sym (first_entry a qs s at) ∙ e) }
  stands_at (b ∷ ps) at l e =
      let o = and_first (starts_with (name b) (form b) (drop at s)) _ (sym (first_entry b (ps ++ (a ∷ qs)) s at) ∙ e) in
      stands_at ps (after (name b) (form b) s at) (stands_within (name b) (form b) s at o) (sym (first_stands b (ps ++ (a ∷ qs)) s at o) ∙ e)

  value_at_lem : (ps : List Attribute) → T (all_rows (is_other a) ps) → (at : ℕ) → at ≤ length s → is_stored_from (ps ++ (a ∷ qs)) (drop at s) ≡ true
      → value_in (name a) (pieces 59 (drop at s)) ≡ some (entry_value (drop (after_all ps s at) s))
  value_at_lem [] d at l e =
      let o = (stands_at [] at l e).starts in
      rw (starts_pieces (name a) (form a) (drop at s) o, starts_named (name a) (form a) (drop at s) o, eq-eqb (name a) (name a) refl)
  value_at_lem (b ∷ ps) d at l e =
      let o = and_first (starts_with (name b) (form b) (drop at s)) _ (sym (first_entry b (ps ++ (a ∷ qs)) s at) ∙ e) in
      let n : eqb (name b) (name a) ≡ false = no (eqb (name b) (name a)) (and_left (is_other a b) (all_rows (is_other a) ps) d) in
      let k : at + (entry_length (drop at s) + 1) ≡ after (name b) (form b) s at = stands (name b) (form b) s at o (entry_length (drop at s)) refl in
      let i = value_at_lem ps (and_right (is_other a b) (all_rows (is_other a) ps) d) (after (name b) (form b) s at) (stands_within (name b) (form b) s at o) (sym (first_stands b (ps ++ (a ∷ qs)) s at o) ∙ e) in
      let m : drop (entry_length (drop at s) + 1) (drop at s) ≡ drop (after (name b) (form b) s at) s = drop-drop (entry_length (drop at s) + 1) at s ∙ ap (λ (j : ℕ). drop j s) k in
      rw (starts_pieces (name b) (form b) (drop at s) o, starts_named (name b) (form b) (drop at s) o, n, m) i

-- the value of an entry that stands at a place, e the place after it
module _ (n : ℕ) (h : 0 < n) (f : Form) (s : List ℕ) (at : ℕ) (w : Stands n f s at) (e : ℕ) (p : e ≡ after n f s at) where
  ends : e ≡ at + (entry_length (drop at s) + 1)
  ends = p ∙ sym (stands n f s at w.starts (entry_length (drop at s)) refl)

  value_start : at + 3 ≤ e - 1
  value_start = omega (arith, ends, starts_three n f (drop at s) w.starts h)

  value_end : e - 1 ≤ length s
  value_end = omega (arith, p, stands_within n f s at w.starts)

  value_between : take (e - 1 - (at + 3)) (drop (at + 3) s) ≡ entry_value (drop at s)
  value_between =
      let k : entry_length (drop at s) - 3 ≡ e - 1 - (at + 3) = omega (arith, ends, starts_three n f (drop at s) w.starts h) in
      sym (drop_take 3 (entry_length (drop at s)) (drop at s) ∙ rw (k, drop-drop))

  module _ (m : ℕ) (x : is_long f m ≡ true) where
    value_long : e ≡ at + (m + 4)
    value_long = omega (arith, ends, entry_long n h f m x (drop at s) w.starts)

-- the attribute a, which every stored card has, in a card as stored, with SGN or without: `at` is the place of its entry
module _ (ps : List Attribute) (a : Attribute) (qs : List Attribute) (t : table ≡ ps ++ (a ∷ qs)) (rs : List Attribute) (u : always ≡ ps ++ (a ∷ rs))
    (d : T (all_rows (is_other a) ps)) (h : 0 < name a) (s : List ℕ) (o : is_stored s ≡ true) (at : ℕ) (p : at ≡ after_all ps s 0) where
  either : {A : Type 0} → ((ls : List Attribute) → is_stored_from (ps ++ (a ∷ ls)) s ≡ true → A) → A
  either f = ⊎_elim (λ (e : is_stored_from always s ≡ true). f rs (rw u at e)) (λ (e : is_stored_from table s ≡ true). f qs (rw t at e)) (stored_walk s o)

  its_entry : Stands (name a) (form a) s at
  its_entry = rw p (either (λ ls e. stands_at a ls s ps 0 (omega arith) e))

  its_value : value_of (name a) s ≡ some (entry_value (drop at s))
  its_value = sym (a_name s (name a) (λ z. omega (arith, z, h))) ∙ rw p (either (λ ls e. value_at_lem a ls s ps d 0 (omega arith) e))

-- KSL
module _ (s : List ℕ) (o : is_stored s ≡ true) (ksl : ℕ) (p : ksl ≡ after_all (take 9 table) s 0) where
  ksl_entry : Stands KSL Name s ksl
  unfolding table always
  ksl_entry = its_entry (take 9 table) (KSL, Engine, Name) (drop 10 table) refl (drop 10 always) refl tt (omega arith) s o ksl p

  ksl_value : value_of KSL s ≡ some (entry_value (drop ksl s))
  unfolding table always
  ksl_value = its_value (take 9 table) (KSL, Engine, Name) (drop 10 table) refl (drop 10 always) refl tt (omega arith) s o ksl p

  module _ (ktc : ℕ) (q : ktc ≡ after_all (take 10 table) s 0) where
    ksl_next : ktc ≡ after KSL Name s ksl
    unfolding table
    ksl_next = rw p q

    pub owner_start : ksl + 3 ≤ ktc - 1
    owner_start = value_start KSL (omega arith) Name s ksl ksl_entry ktc ksl_next

    pub owner_end : ktc - 1 ≤ length s
    owner_end = value_end KSL (omega arith) Name s ksl ksl_entry ktc ksl_next

    pub owner_some : 1 ≤ ktc
    owner_some = omega (arith, owner_start)

    pub owner_value : take (ktc - 1 - (ksl + 3)) (drop (ksl + 3) s) ≡ or_else (value_of KSL s) []
    owner_value = value_between KSL (omega arith) Name s ksl ksl_entry ktc ksl_next ∙ rw ksl_value

-- KRN, one digit, and SGC, ten
module _ (n : ℕ) (f : Form) (m : ℕ) (h : 0 < n) (x : is_long f m ≡ true) (s : List ℕ) (at : ℕ) (w : Stands n f s at) (v : value_of n s ≡ some (entry_value (drop at s))) where
  next : after n f s at ≡ at + (m + 4)
  next = value_long n h f s at w (after n f s at) refl m x

  fixed_end : at + (m + 3) ≤ length s
  fixed_end = omega (arith, next, value_end n h f s at w (after n f s at) refl)

  fixed_value : take m (drop (at + 3) s) ≡ take m (or_else (value_of n s) [])
  fixed_value =
      let k : after n f s at - 1 - (at + 3) ≡ m = omega (arith, next) in
      let b : take m (drop (at + 3) s) ≡ entry_value (drop at s) = rw k at (value_between n h f s at w (after n f s at) refl) in
      let l : length (take m (drop (at + 3) s)) ≤ m = omega (arith, length-take-le m (drop (at + 3) s) (omega (arith, fixed_end, length-drop (at + 3) s))) in
      sym (take_all m (take m (drop (at + 3) s)) l) ∙ rw (b, v)

module _ (s : List ℕ) (o : is_stored s ≡ true) where
  module _ (krn : ℕ) (p : krn ≡ after_all (take 8 table) s 0) where
    krn_entry : Stands KRN (Number 1 1 9) s krn
    unfolding table always
    krn_entry = its_entry (take 8 table) (KRN, Required, Number 1 1 9) (drop 9 table) refl (drop 9 always) refl tt (omega arith) s o krn p

    krn_value : value_of KRN s ≡ some (entry_value (drop krn s))
    unfolding table always
    krn_value = its_value (take 8 table) (KRN, Required, Number 1 1 9) (drop 9 table) refl (drop 9 always) refl tt (omega arith) s o krn p

    pub revision_end : krn + 4 ≤ length s
    revision_end = fixed_end KRN (Number 1 1 9) 1 (omega arith) refl s krn krn_entry krn_value

    pub revision_value : take (krn + 4 - (krn + 3)) (drop (krn + 3) s) ≡ take 1 (or_else (value_of KRN s) [])
    revision_value =
        let k : krn + 4 - (krn + 3) ≡ 1 = omega arith in
        rw k (fixed_value KRN (Number 1 1 9) 1 (omega arith) refl s krn krn_entry krn_value)

  module _ (sgc : ℕ) (p : sgc ≡ after_all (take 12 table) s 0) where
    sgc_entry : Stands SGC (Digits 10) s sgc
    unfolding table always
    sgc_entry = its_entry (take 12 table) (SGC, Required, Digits 10) (drop 13 table) refl (drop 13 always) refl tt (omega arith) s o sgc p

    sgc_value : value_of SGC s ≡ some (entry_value (drop sgc s))
    unfolding table always
    sgc_value = its_value (take 12 table) (SGC, Required, Digits 10) (drop 13 table) refl (drop 13 always) refl tt (omega arith) s o sgc p

    pub group_end : sgc + 13 ≤ length s
    group_end = fixed_end SGC (Digits 10) 10 (omega arith) refl s sgc sgc_entry sgc_value

    pub group_value : take (sgc + 13 - (sgc + 3)) (drop (sgc + 3) s) ≡ take 10 (or_else (value_of SGC s) [])
    group_value =
        let k : sgc + 13 - (sgc + 3) ≡ 10 = omega arith in
        rw k (fixed_value SGC (Digits 10) 10 (omega arith) refl s sgc sgc_entry sgc_value)
