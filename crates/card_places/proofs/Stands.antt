-- The cases of a whole card, each with what the code knows where it answers as premises.
use mathlib.Core.Path.{◌≡◌, refl, sym, ap, ◌∙◌}
use mathlib.Core.Bool.{Bool, true, false, and_assoc, or-false, ◌&&◌, ◌||◌}
use mathlib.Core.List.{List, [], ◌∷◌, ◌++◌}
use Prim.Native.Nat.{ℕ, ◌+◌, ◌-◌, ◌≤◌, ◌<◌}
use native.Mathlib.Omega.{arith}
use lib.Dec.{eqb, ltb, leb}
use lib.ListN.{length, take, drop}
use lib.Seq.{drop-drop}
use borrow.Author.Tests.{eq-eqb, ne_eqb, le-leb, lt-leb, eqb-true, eqb-false}
use Rattle.byte_strings.proofs.StringLaws.{rest}
use Rattle.text_classes.specs.Classes.{are_all}
use Rattle.text_classes.specs.declared.Class.TheVariants.{Zero}
use Rattle.text_forms.specs.declared.Form.{Form}
use Rattle.text_forms.specs.declared.Form.TheVariants.{Number, Label}
use Rattle.card_entries.specs.Entries.{entry_length, name_of}
use Rattle.card_attributes.specs.Table.{SGN, ULM, table, always, name, form}
use Rattle.card_attributes.specs.declared.Attribute.{Attribute}
use Rattle.card_attributes.specs.declared.Presence.TheVariants.{Optional, Kept}
use Rattle.card_stored.specs.Stored.{is_entry_of, is_stored}
use Rattle.card_stored.proofs.Sequence.{is_stored_from, stored_by_entries}
use Rattle.card_steps.specs.Steps.{starts_with, after}
use Rattle.card_steps.proofs.EntryPlaces.{starts_name}
use Rattle.card_steps.proofs.Stands.{stands, stands_not, stands_within, past_stays, other_name}
use Rattle.card_places.specs.Places.{after_all, after_kept, is_clear}

-- is_clear
module _ (s : List ℕ) (at : ℕ) where
  pub other_space : (length s ≡ 256 → ⊥) → false ≡ is_clear s at
  unfolding is_clear
  other_space o = sym (rw (ne_eqb (length s) 256 o))

  module _ (e : length s ≡ 256) where
    pub beyond : length s < at → false ≡ is_clear s at
    unfolding is_clear
    beyond h = sym (rw (eq-eqb (length s) 256 e, lt-leb at (length s) h))

    pub only_zeros : at ≤ length s → (r : Bool) → r ≡ are_all Zero (take (length s - at) (drop at s)) → r ≡ is_clear s at
    unfolding is_clear
    only_zeros h r p = p ∙ sym (rw (eq-eqb (length s) 256 e, le-leb at (length s) h, rest) refl)

pub ruleset clear_cases = (other_space, beyond, only_zeros)

-- after_limit: the name of the attribute that is kept stands at a place, or it does not
module _ (n : ℕ) (f : Form) (s : List ℕ) (at : ℕ) where
  kept : eqb (name_of (drop at s)) n ≡ true → after n f s at ≡ after_kept n f s at
  unfolding after_kept
  kept e = sym (rw e)

  kept_not : eqb (name_of (drop at s)) n ≡ false → at ≡ after_kept n f s at
  unfolding after_kept
  kept_not e = sym (rw e)

module _ (s : List ℕ) (at end : ℕ) (e : end ≡ after ULM (Number 9 0 999999999) s at) where
  abbrev limit : ℕ
  limit = after ULM (Number 9 0 999999999) s (after_kept SGN (Label 24) s at)

  -- where the entry of ULM stands there, it does not
  pub limit_first : end ≤ length s → end ≡ limit
  limit_first h = go (starts_with ULM (Number 9 0 999999999) (drop at s)) refl
    where
      go : (t : Bool) → starts_with ULM (Number 9 0 999999999) (drop at s) ≡ t → end ≡ limit
      go true q =
          let n = starts_name ULM (Number 9 0 999999999) (drop at s) q (omega arith) in
          e ∙ ap (after ULM (Number 9 0 999999999) s) (kept_not SGN (Label 24) s at (ne_eqb (name_of (drop at s)) SGN (λ m. omega (arith, n, m))))
      go false q = absurd (omega (arith, stands_not ULM (Number 9 0 999999999) s at q))

  -- else the entry of ULM stands after that of SGN, or nowhere
  module _ (h : length s < end) (ulm : ℕ) (p : ulm ≡ after SGN (Label 24) s at) where
    pub limit_later : (r : ℕ) → r ≡ after ULM (Number 9 0 999999999) s ulm → r ≡ limit
    limit_later r q = go (eqb (name_of (drop at s)) SGN) refl
      where
        nowhere : (t : Bool) → starts_with ULM (Number 9 0 999999999) (drop at s) ≡ t → after ULM (Number 9 0 999999999) s at ≡ length s + 1
        nowhere true w = absurd (omega (arith, stands_within ULM (Number 9 0 999999999) s at w))
        nowhere false w = sym (stands_not ULM (Number 9 0 999999999) s at w)

        go : (t : Bool) → eqb (name_of (drop at s)) SGN ≡ t → r ≡ limit
        go true w = q ∙ ap (after ULM (Number 9 0 999999999) s) (p ∙ kept SGN (Label 24) s at w)
        go false w =
            let o = sym (other_name SGN (omega arith) (Label 24) s at (eqb-false (name_of (drop at s)) SGN w)) in
            q ∙ ap (after ULM (Number 9 0 999999999) s) (p ∙ o) ∙ past_stays s ULM (Number 9 0 999999999)
            ∙ sym (nowhere (starts_with ULM (Number 9 0 999999999) (drop at s)) refl) ∙ ap (after ULM (Number 9 0 999999999) s) (kept_not SGN (Label 24) s at w)

-- what follows an entry that stands is judged by the rest of the table
module _ (a : Attribute) (rs : List Attribute) (s : List ℕ) (at : ℕ) where
  pub first_entry : is_stored_from (a ∷ rs) (drop at s) ≡ (starts_with (name a) (form a) (drop at s) && is_stored_from rs (drop (at + (entry_length (drop at s) + 1)) s))
  unfolding starts_with is_entry_of
  first_entry =
      let t = drop at s in
      let d : drop (entry_length t + 1) t ≡ drop (at + (entry_length t + 1)) s = rw drop-drop refl in
      rw d (sym (and_assoc (ltb (entry_length t) (length t)) (is_entry_of a (take (entry_length t) t)) (is_stored_from rs (drop (at + (entry_length t + 1)) s))))

  pub first_stands : starts_with (name a) (form a) (drop at s) ≡ true → is_stored_from (a ∷ rs) (drop at s) ≡ is_stored_from rs (drop (after (name a) (form a) s at) s)
  first_stands e = first_entry ∙ rw (e, ← stands (name a) (form a) s at e (entry_length (drop at s)) refl) refl

  first_not : starts_with (name a) (form a) (drop at s) ≡ false → is_stored_from (a ∷ rs) (drop at s) ≡ false
  first_not e = first_entry ∙ rw e refl

-- find_places: beyond the end nothing stands
module _ (s : List ℕ) where
  all_past : (rs : List Attribute) → after_all rs s (length s + 1) ≡ length s + 1
  all_past [] = refl
  all_past (a ∷ rs) = rw (past_stays s (name a) (form a)) (all_past rs)

  -- a place within the card, from which on only zeros stand
  abbrev is_end : ℕ → Bool
  is_end e = leb e (length s) && are_all Zero (drop e s)

  no_end : is_end (length s + 1) ≡ false
  no_end = rw (lt-leb (length s + 1) (length s) (omega arith))

  -- so a card is one as stored where the place after its entries is such a place
  stored_from : (rs : List Attribute) (at : ℕ) → at ≤ length s → is_stored_from rs (drop at s) ≡ is_end (after_all rs s at)
  stored_from [] at h = rw (le-leb at (length s) h)
  stored_from (a ∷ rs) at h = go (starts_with (name a) (form a) (drop at s)) refl (stored_from rs)
    where
      go : (t : Bool) → starts_with (name a) (form a) (drop at s) ≡ t → ((i : ℕ) → i ≤ length s → is_stored_from rs (drop i s) ≡ is_end (after_all rs s i))
          → is_stored_from (a ∷ rs) (drop at s) ≡ is_end (after_all rs s (after (name a) (form a) s at))
      go true e more = first_stands a rs s at e ∙ more (after (name a) (form a) s at) (stands_within (name a) (form a) s at e)
      go false e more = first_not a rs s at e ∙ sym (rw (← stands_not (name a) (form a) s at e, all_past rs) no_end)

  -- the entry of a may stand at a place before that of b, or not: not both stand there, since their names differ
  module _ (a b : Attribute) (rs : List Attribute) (h : 0 < name a) (k : 0 < name b) (d : name a ≡ name b → ⊥) (at : ℕ) where
    kept_end : is_end (after_all (b ∷ rs) s (after_kept (name a) (form a) s at)) ≡ (is_end (after_all (b ∷ rs) s at) || is_end (after_all (a ∷ b ∷ rs) s at))
    kept_end = go (eqb (name_of (drop at s)) (name a)) refl
      where
        go : (t : Bool) → eqb (name_of (drop at s)) (name a) ≡ t
            → is_end (after_all (b ∷ rs) s (after_kept (name a) (form a) s at)) ≡ (is_end (after_all (b ∷ rs) s at) || is_end (after_all (a ∷ b ∷ rs) s at))
        go true e =
            let n = eqb-true (name_of (drop at s)) (name a) e in
            rw (← kept (name a) (form a) s at e, ← other_name (name b) k (form b) s at (λ m. d (sym n ∙ m)), all_past rs, no_end)
        go false e = rw (← kept_not (name a) (form a) s at e, ← other_name (name a) h (form a) s at (eqb-false (name_of (drop at s)) (name a) e), all_past (b ∷ rs), no_end, or-false)

  after_append : (ps qs : List Attribute) (at : ℕ) → after_all (ps ++ qs) s at ≡ after_all qs s (after_all ps s at)
  after_append [] qs at = refl
  after_append (p ∷ ps) qs at = after_append ps qs (after (name p) (form p) s at)

  -- so a card is one as stored with the entry of a, or without
  module _ (ps : List Attribute) (a b : Attribute) (rs : List Attribute) (h : 0 < name a) (k : 0 < name b) (d : name a ≡ name b → ⊥) where
    either_stored : is_end (after_all (b ∷ rs) s (after_kept (name a) (form a) s (after_all ps s 0))) ≡ (is_stored_from (ps ++ (b ∷ rs)) s || is_stored_from (ps ++ (a ∷ b ∷ rs)) s)
    either_stored =
        rw (stored_from (ps ++ (b ∷ rs)) 0 (omega arith), stored_from (ps ++ (a ∷ b ∷ rs)) 0 (omega arith), after_append ps (b ∷ rs) 0, after_append ps (a ∷ b ∷ rs) 0)
        (kept_end a b rs h k d (after_all ps s 0))

  pub stored_after : (e : ℕ) → e ≡ after_all (drop 14 table) s (after_kept SGN (Label 24) s (after_all (take 13 table) s 0)) → (r : Bool) → r ≡ is_clear s e → r ≡ is_stored s
  unfolding is_clear table always
  stored_after e p r q =
      let o = either_stored (take 13 table) (SGN, Kept, Label 24) (ULM, Optional, Number 9 0 999999999) (drop 15 table) (omega arith) (omega arith) (λ x. omega (arith, x)) in
      q ∙ ap (λ (b : Bool). eqb (length s) 256 && b) (ap is_end p ∙ o) ∙ sym (stored_by_entries s)
