-- The cases of the incoming card, each with what the code knows where it answers as premises.
use mathlib.Core.Path.{◌≡◌, refl, sym, ap, ◌∙◌}
use mathlib.Core.Bool.{Bool, true, false, cond, not, and-false}
use mathlib.Core.List.{List, [], ◌∷◌}
use Prim.Native.Nat.{ℕ, suc, ◌+◌, ◌-◌, ◌≤◌, ◌<◌}
use native.Mathlib.Omega.{arith}
use lib.Dec.{eqb}
use lib.ListN.{length, take, drop, drop_of_length-le}
use borrow.Author.Tests.{ne_eqb, le-leb, lt-leb, le-ltb, lt-ltb, not-true, not-false}
use Rattle.byte_strings.specs.Strings.{run, is_not}
use Rattle.byte_pieces.proofs.PieceLaws.{next_piece, not_ended, next_ended}
use Rattle.text_classes.specs.Classes.{are_all}
use Rattle.text_classes.specs.declared.Class.TheVariants.{Value}
use Rattle.text_forms.specs.Forms.{in_form}
use Rattle.card_entries.specs.Entries.{name_of}
use Rattle.card_attributes.specs.Table.{ACT, BDT, CLM, CLU, DKG, IUT, KCV, KEN, KRN, KSL, KTC, SBM, SGC, SGN, ULM, VND}
use Rattle.card_attributes.specs.Table.{table, rows, name, presence, form}
use Rattle.card_incoming.specs.Incoming.{fits, fits_name, fits_first, index_of}
use Rattle.card_attributes.specs.declared.Presence.TheVariants.{Required, Optional, Engine, Kept}
use Rattle.card_attributes.specs.declared.Attribute.{Attribute}
use Rattle.card_entries.proofs.EntryLaws.{value_here, name_room}
use Rattle.card_attributes.proofs.TableLaws.{table_end}
use Rattle.card_incoming.proofs.Sequence.{is_card_from}

-- fits
module _ (a : Attribute) (v : List ℕ) where
  pub fits_required : presence a ≡ Required → (r : Bool) → r ≡ in_form (form a) v → r ≡ fits a v
  unfolding fits
  fits_required e r p = rw (e, p)

  pub fits_optional : presence a ≡ Optional → (r : Bool) → r ≡ in_form (form a) v → r ≡ fits a v
  unfolding fits
  fits_optional e r p = rw (e, p)

  pub fits_kept : presence a ≡ Kept → (r : Bool) → r ≡ in_form (form a) v → r ≡ fits a v
  unfolding fits
  fits_kept e r p = rw (e, p)

  pub fits_empty : presence a ≡ Engine → length v < 1 → false ≡ fits a v
  unfolding fits
  fits_empty e h = rw (e, lt-leb 1 (length v) h)

  pub fits_engine : presence a ≡ Engine → 1 ≤ length v → (r : Bool) → r ≡ are_all Value v → r ≡ fits a v
  unfolding fits
  fits_engine e h r p = rw (e, le-leb 1 (length v) h, p)

-- fits_at
module _ (k : ℕ) (v : List ℕ) (r : Bool) where
  pub fits_past : rows ≤ k → r ≡ are_all Value v → r ≡ fits_first (drop k table) v
  fits_past h p = p ∙ ap (λ (rs : List Attribute). fits_first rs v) (sym (table_end k h))

  pub fits_row : (a : Attribute) → drop k table ≡ a ∷ drop (k + 1) table → r ≡ fits a v → r ≡ fits_first (drop k table) v
  fits_row a e p = p ∙ ap (λ (rs : List Attribute). fits_first rs v) (sym e)

-- index_of
module _ (n : ℕ) where
  pub index_arm : (m i : ℕ) → n ≡ m → i ≡ index_of table m → i ≡ index_of table n
  index_arm m i e p = rw e p

  module _ (act : n ≡ ACT → ⊥) (bdt : n ≡ BDT → ⊥) (clm : n ≡ CLM → ⊥) (clu : n ≡ CLU → ⊥) (dkg : n ≡ DKG → ⊥) where
    module _ (iut : n ≡ IUT → ⊥) (kcv : n ≡ KCV → ⊥) (ken : n ≡ KEN → ⊥) (krn : n ≡ KRN → ⊥) (ksl : n ≡ KSL → ⊥) where
      module _ (ktc : n ≡ KTC → ⊥) (sbm : n ≡ SBM → ⊥) (sgc : n ≡ SGC → ⊥) (sgn : n ≡ SGN → ⊥) (ulm : n ≡ ULM → ⊥) (vnd : n ≡ VND → ⊥) where
        pub index_none : rows ≡ index_of table n
        unfolding table
        index_none = rw (not_it ACT act, not_it BDT bdt, not_it CLM clm, not_it CLU clu, not_it DKG dkg, not_it IUT iut, not_it KCV kcv, not_it KEN ken, not_it KRN krn, not_it KSL ksl, not_it KTC ktc, not_it SBM sbm, not_it SGC sgc, not_it SGN sgn, not_it ULM ulm, not_it VND vnd)
          where
            not_it : (m : ℕ) → (n ≡ m → ⊥) → eqb m n ≡ false
            not_it m o = ne_eqb m n (λ e. o (sym e))

-- v under the attribute at the index of a name
fits_indexed : (rs : List Attribute) (n : ℕ) (v : List ℕ) → fits_first (drop (index_of rs n) rs) v ≡ fits_name rs n v
fits_indexed [] n v = refl
fits_indexed (a ∷ rs) n v = go (eqb (name a) n) (fits_indexed rs n v)
  where
    go : (t : Bool) → fits_first (drop (index_of rs n) rs) v ≡ fits_name rs n v
        → fits_first (drop (cond t 0 (suc (index_of rs n))) (a ∷ rs)) v ≡ cond t (fits a v) (fits_name rs n v)
    go true ih = refl
    go false ih = ih

-- read_card: z is whether all of s is a card
module _ (s : List ℕ) (z : Bool) (at last : ℕ) (inv : is_card_from last (drop at s) ≡ z) where
  pub card_done : length s ≤ at → true ≡ z
  unfolding is_card_from
  card_done h = ap (is_card_from last) (sym (drop_of_length-le s h)) ∙ inv

  module _ (e : ℕ) (p : e ≡ at + run (is_not 59) (drop at s)) where
    pub card_open : at < length s → length s ≤ e → false ≡ z
    unfolding is_card_from
    card_open k h = let y : is_card_from last (drop at s) ≡ false = rw (not_ended 59 s at e p k h) in sym y ∙ inv

    module _ (h : e < length s) (n : ℕ) (q : n ≡ name_of (take (e - at) (drop at s))) where
      pub card_order : n ≤ last → false ≡ z
      unfolding is_card_from
      card_order l = let y : is_card_from last (drop at s) ≡ false = rw (next_piece 59 s at e p h, ← q, le-ltb last n l, and-false) in sym y ∙ inv

      module _ (l : last < n) where
        pub card_room : at + 3 ≤ e
        card_room = name_room s at e h p (omega arith)

        module _ (i : ℕ) (d : i ≡ index_of table n) (t : Bool) (o : t ≡ fits_first (drop i table) (take (e - (at + 3)) (drop (at + 3) s))) where
          fit_here : t ≡ fits_name table n (drop 3 (take (e - at) (drop at s)))
          fit_here = rw d at o ∙ fits_indexed table n (take (e - (at + 3)) (drop (at + 3) s)) ∙ ap (fits_name table n) (sym (value_here s at e))

          pub card_unfit : not t ≡ true → false ≡ z
          unfolding is_card_from
          card_unfit m =
              let y : is_card_from last (drop at s) ≡ false = rw (next_piece 59 s at e p h, ← q, lt-ltb last n l, ← fit_here, not-true t m, and-false) in
              sym y ∙ inv

          pub card_turn : not t ≡ false → is_card_from n (drop (e + 1) s) ≡ z
          unfolding is_card_from
          card_turn m =
              let y : is_card_from last (drop at s) ≡ is_card_from n (drop (e + 1) s) = rw (next_ended 59 s at e p h, next_piece 59 s at e p h, ← q, lt-ltb last n l, ← fit_here, not-false t m) in
              sym y ∙ inv
