-- The cases of one row, each with what the code knows where it answers as premises.
use mathlib.Core.Path.{◌≡◌, sym, ap, ◌∙◌}
use mathlib.Core.Bool.{Bool, true, false, not, ◌&&◌}
use mathlib.Core.List.{List, []}
use Prim.Native.Nat.{ℕ, ◌+◌, ◌-◌, ◌*◌, ◌≤◌}
use lib.Dec.{eqb}
use lib.ListN.{length, take, drop}
use borrow.Author.Tests.{eq-eqb, ne_eqb, not-true, not-false}
use Rattle.text_classes.specs.Classes.{are_all}
use Rattle.text_classes.specs.declared.Class.TheVariants.{Zero}
use Rattle.text_decimals.specs.Decimals.{decimal}
use Rattle.card_attributes.specs.Table.{SGC, KRN, KSL, table}
use Rattle.card_entries.specs.Entries.{value_of, or_else}
use Rattle.card_stored.specs.Stored.{is_stored}
use Rattle.card_places.specs.Places.{after_all}
use Rattle.card_places.proofs.Values.{owner_start, owner_some, owner_end, owner_value, group_end, group_value, revision_end, revision_value}
use Rattle.row_types.specs.Lists.{some_row}
use Rattle.row_types.specs.Registers.{is_vacant, attribute_of, is_register_sound}
use Rattle.row_types.specs.Index.{is_called, is_owned_by, key_number, is_same_number}
use Rattle.row_index.specs.Found.{number_of, owner_number}
use Rattle.row_index.specs.Lent.{row_with}
use Rattle.row_index.proofs.NumberOf.{some_number}
use Rattle.register_keys.specs.Judged.{is_card_owned, card_number, card_owner, is_sound_under}

-- judge_card: b says whether the card is one as stored
module _ (card : List ℕ) (names : List (List ℕ)) (b : Bool) (e : b ≡ is_stored card) where
  pub not_stored : not b ≡ true → (t : Bool) → t ≡ false → t ≡ is_card_owned names card
  unfolding is_card_owned
  not_stored o t q = q ∙ sym (rw (← e, not-true b o))

  module _ (o : not b ≡ false) where
    pub stored : is_stored card ≡ true
    stored = sym e ∙ not-false b o

    -- k is the number of the name that stands at its place
    module _ (ksl ktc : ℕ) (p : ksl ≡ after_all (take 9 table) card 0) (q : ktc ≡ after_all (take 10 table) card 0) (k : ℕ)
        (u : k ≡ number_of (is_called (take (ktc - 1 - (ksl + 3)) (drop (ksl + 3) card))) names) where
      owner : k ≡ number_of (is_called (or_else (value_of KSL card) [])) names
      owner = u ∙ ap (λ (v : List ℕ). number_of (is_called v) names) (owner_value card stored ksl p ktc q)

      some_owner : some_row (is_called (or_else (value_of KSL card) [])) names ≡ not (eqb k 0)
      some_owner = some_number (is_called (or_else (value_of KSL card) [])) names ∙ ap (λ (n : ℕ). not (eqb n 0)) (sym owner)

      pub not_owned : k ≡ 0 → (t : Bool) → t ≡ false → t ≡ is_card_owned names card
      unfolding is_card_owned
      not_owned i t o = o ∙ sym (rw (stored, some_owner, eq-eqb k 0 i))

      pub owned : (k ≡ 0 → ⊥) → true ≡ is_card_owned names card
      unfolding is_card_owned
      owned i = sym (rw (stored, some_owner, ne_eqb k 0 i))

      pub its_owner : true ≡ true → k ≡ card_owner names card
      unfolding card_owner
      its_owner z = owner

    -- where the values stand
    module _ (ksl ktc : ℕ) (p : ksl ≡ after_all (take 9 table) card 0) (q : ktc ≡ after_all (take 10 table) card 0) where
      pub owner_from : ksl + 3 ≤ ktc - 1
      owner_from = owner_start card stored ksl p ktc q

      pub owner_there : 1 ≤ ktc
      owner_there = owner_some card stored ksl p ktc q

      pub owner_to : ktc - 1 ≤ length card
      owner_to = owner_end card stored ksl p ktc q

    pub group_to : (sgc : ℕ) → sgc ≡ after_all (take 12 table) card 0 → sgc + 13 ≤ length card
    group_to sgc p = group_end card stored sgc p

    pub revision_to : (krn : ℕ) → krn ≡ after_all (take 8 table) card 0 → krn + 4 ≤ length card
    revision_to krn p = revision_end card stored krn p

    pub told : (sgc krn : ℕ) → sgc ≡ after_all (take 12 table) card 0 → krn ≡ after_all (take 8 table) card 0 → (k : ℕ)
        → k ≡ decimal (take (sgc + 13 - (sgc + 3)) (drop (sgc + 3) card)) * 10 + decimal (take (krn + 4 - (krn + 3)) (drop (krn + 3) card)) → true ≡ true → k ≡ card_number card
    unfolding card_number
    told sgc krn p q k u z = u ∙ rw (group_value card stored sgc p, revision_value card stored krn q)

-- judge_register: t says whether the card's space is clear
module _ (card : List ℕ) (names : List (List ℕ)) (t : Bool) (e : t ≡ are_all Zero card) where
  pub free_sound : t ≡ true → true ≡ is_sound_under names (row_with card)
  unfolding is_sound_under is_register_sound is_owned_by is_vacant
  free_sound o = rw (← e, o)

  pub free_key : t ≡ true → true ≡ true → 0 ≡ key_number (row_with card)
  unfolding key_number is_vacant
  free_key o z = rw (← e, o)

  pub free_owner : t ≡ true → true ≡ true → 0 ≡ owner_number names (row_with card)
  unfolding owner_number is_vacant
  free_owner o z = rw (← e, o)

  module _ (o : t ≡ false) (b : Bool) where
    pub filled_sound : b ≡ is_card_owned names card → b ≡ is_sound_under names (row_with card)
    unfolding is_sound_under is_register_sound is_owned_by attribute_of is_card_owned is_vacant
    filled_sound p = rw (← e, o) p

    pub filled_key : (k : ℕ) → (b ≡ true → k ≡ card_number card) → b ≡ true → k ≡ key_number (row_with card)
    unfolding key_number attribute_of card_number is_vacant
    filled_key k p q = rw (← e, o) (p q)

    pub filled_owner : (k : ℕ) → (b ≡ true → k ≡ card_owner names card) → b ≡ true → k ≡ owner_number names (row_with card)
    unfolding owner_number attribute_of card_owner is_vacant
    filled_owner k p q = rw (← e, o) (p q)

-- judge_registers: a number that is told where the row is sound
pub judged_number : (b : Bool) (k x : ℕ) → (b ≡ true → k ≡ x) → not b ≡ false → k ≡ x
judged_number b k x u o = u (not-false b o)

-- is_same_number
module _ (a b : ℕ) where
  pub no_key : a ≡ 0 → false ≡ is_same_number a b
  unfolding is_same_number
  no_key o = rw (eq-eqb a 0 o)

  pub a_key : (a ≡ 0 → ⊥) → eqb a b ≡ is_same_number a b
  unfolding is_same_number
  a_key o = rw (ne_eqb a 0 o)
