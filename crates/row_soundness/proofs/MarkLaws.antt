-- Question 3 of the marks: they are judged by the numbers of their owners, and all else of the cards alone. S are the first n of the slot rows.
use mathlib.Core.Path.{◌≡◌, refl, sym, ap, subst, ◌∙◌}
use mathlib.Core.Bool.{Bool, true, false, not, ◌&&◌}
use mathlib.Core.List.{List, [], ◌∷◌, map}
use Prim.Native.Nat.{ℕ, zero, suc, ◌-◌, ◌≤◌, ◌<◌}
use native.Mathlib.Numerals.{add-one}
use native.Mathlib.Omega.{arith}
use lib.Dec.{eqb}
use lib.ListN.{length, get_or, take, length-map, get_or-map}
use lib.Seq.{get_or-take}
use borrow.Author.Tests.{le-leb, ne_eqb, not-true, not-false}
use Rattle.byte_strings.proofs.Flags.{and_first, and_second}
use Rattle.card_attributes.specs.Table.{KSL}
use Rattle.row_types.specs.Lists.{every_row, some_row, distinct_rows}
use Rattle.row_types.specs.Slots.{in_session, is_named, is_slot_sound, is_same_slot, free_slot}
use Rattle.row_types.specs.Registers.{is_vacant, attribute_of, is_key_of, is_register_sound, is_same_key, is_closed, is_open}
use Rattle.row_types.specs.Sound.{is_owned, is_in_session, is_mark_sound, are_sound}
use Rattle.row_types.specs.Index.{kept_name, state_in, key_number}
use Rattle.row_types.specs.declared.SlotRow.{SlotRow}
use Rattle.row_types.specs.declared.RegisterRow.{RegisterRow}
use Rattle.row_types.proofs.ListLaws.{found, every_true}
use Rattle.row_index.specs.Found.{owner_number}
use Rattle.row_index.specs.Lent.{marked_row, marked_rows, row_with, rows_with, card_in}
use Rattle.row_index.proofs.LentLaws.{take_short, read_alike, every_alike_marked, marked_cards, cards_again}
use Rattle.row_index.proofs.Readings.{distinct_read}
use Rattle.row_index.proofs.OwnerLaws.{free_number, filled_number, owner_low}
use Rattle.row_index.proofs.SessionLaws.{session_at}
use Rattle.register_marks.specs.Marked.{is_session_state, is_mark_right, are_marks_right, is_up_to, AreUpTo}
use Rattle.row_types.proofs.SoundLaws.{slots_sound, slots_distinct, registers_owned}
use Rattle.row_soundness.proofs.SoundLaws.{closed_sound}

-- the numbers of owners are no more than there are names
pub owners_low : (n : ℕ) (names : List (List ℕ)) → length names ≤ n → (R : List RegisterRow) → AreUpTo n (map (owner_number names) R)
unfolding is_up_to
owners_low n names h [] = refl
owners_low n names h (r ∷ rs) = let k = owner_low names r in rw (le-leb (owner_number names r) n (omega (arith, h, k)), owners_low n names h rs) refl

module _ (slots : List SlotRow) (n : ℕ) (sound : every_row is_slot_sound (take n slots) ≡ true) (distinct : distinct_rows is_same_slot (take n slots) ≡ true) where
  abbrev S : List SlotRow
  S = take n slots

  abbrev names : List (List ℕ)
  names = map kept_name S

  abbrev states : List ℕ
  states = map state_in slots

  -- the state of slot k is told by its number
  state_at : (k : ℕ) → k < length S → in_session (get_or S k free_slot) ≡ is_session_state (get_or states k 0)
  unfolding in_session free_slot
  state_at k h =
      let l = take_short n slots in
      let e : get_or states k 0 ≡ state_in (get_or S k free_slot) = get_or-map state_in slots k free_slot ∙ ap state_in (sym (get_or-take n slots k free_slot (omega (arith, l, h)))) in
      rw e refl

  module _ (r : RegisterRow) (owned : is_owned S r ≡ true) where
    by_number : (k : ℕ) → owner_number names r ≡ k → (not (is_vacant r) && some_row (is_in_session (attribute_of KSL r)) S) ≡ (not (eqb k 0) && is_session_state (get_or states (k - 1) 0))
    by_number zero e = rw (free_number S sound r owned e) refl
    by_number (suc k) e =
        let f = filled_number S sound r owned k (e ∙ sym (add-one k)) in
        let at = found (is_named (attribute_of KSL r)) free_slot S k f.1 in
        let m : suc k - 1 ≡ k = omega arith in
        rw (f.0, ne_eqb (suc k) 0 (λ z. omega arith), m) (session_at (attribute_of KSL r) S distinct k at.0 at.1 ∙ state_at k at.0)

    by_owner : is_mark_sound S r ≡ is_mark_right states (owner_number names r) r.mark
    unfolding is_mark_sound is_mark_right is_closed is_open
    by_owner = rw (by_number (owner_number names r) refl)

  -- so each mark
  pub marks_by_owners : (cards : List (List ℕ)) (marks : List ℕ) → length cards ≤ length marks → every_row (is_owned S) (marked_rows cards marks) ≡ true
      → every_row (is_mark_sound S) (marked_rows cards marks) ≡ are_marks_right states (map (owner_number names) (marked_rows cards marks)) marks
  unfolding marked_rows are_marks_right
  marks_by_owners [] marks h o = refl
  marks_by_owners (c ∷ cs) [] h o = absurd (omega arith)
  marks_by_owners (c ∷ cs) (k ∷ ks) h o =
      let a = and_first (is_owned S (marked_row c k)) _ o in
      let b = and_second (is_owned S (marked_row c k)) _ o in
      rw (by_owner (marked_row c k) a, marks_by_owners cs ks (omega arith) b)

-- WHAT IS READ OF CARDS ALONE is the same of marked rows: M are these, R the rows as far as their cards tell them
module _ (S : List SlotRow) (cards : List (List ℕ)) (marks : List ℕ) where
  abbrev M : List RegisterRow
  M = marked_rows cards marks

  abbrev R : List RegisterRow
  R = rows_with cards

  same_keys : map key_number M ≡ map key_number R
  unfolding key_number is_vacant attribute_of
  same_keys = read_alike key_number (λ card mark. refl) cards marks

  same_owners : (names : List (List ℕ)) → map (owner_number names) M ≡ map (owner_number names) R
  unfolding owner_number is_vacant attribute_of
  same_owners names = read_alike (owner_number names) (λ card mark. refl) cards marks

  each_sound : every_row is_register_sound M ≡ every_row is_register_sound R
  unfolding is_register_sound is_vacant
  each_sound = every_alike_marked is_register_sound (λ card mark. refl) cards marks

  each_owned : every_row (is_owned S) M ≡ every_row (is_owned S) R
  unfolding is_owned is_vacant attribute_of
  each_owned = every_alike_marked (is_owned S) (λ card mark. refl) cards marks

  distinct_alike : distinct_rows is_same_key M ≡ distinct_rows is_same_key R
  unfolding is_same_key is_key_of is_vacant attribute_of
  distinct_alike = by_cards M ∙ ap (distinct_rows same) (marked_cards cards marks ∙ sym (cards_again cards)) ∙ sym (by_cards R)
    where
      same : List ℕ → List ℕ → Bool
      same a b = is_same_key (row_with a) (row_with b)

      by_cards : (l : List RegisterRow) → distinct_rows is_same_key l ≡ distinct_rows same (map card_in l)
      by_cards l = distinct_read (λ (r : RegisterRow). true) card_in is_same_key same (λ a b p q. refl) l (every_true l)

  -- soundness is that of the cards, and that of the marks
  apart : are_sound S M ≡ (are_sound S R && every_row (is_mark_sound S) M)
  unfolding are_sound
  apart = rw (each_sound, distinct_alike, each_owned, closed_sound S cards)
      (go (every_row is_slot_sound S) (distinct_rows is_same_slot S) (every_row is_register_sound R) (distinct_rows is_same_key R) (every_row (is_owned S) R) (every_row (is_mark_sound S) M))
    where
      go : (a b c d e f : Bool) → (a && (b && (c && (d && (e && f))))) ≡ ((a && (b && (c && (d && (e && true))))) && f)
      go false b c d e f = refl
      go true false c d e f = refl
      go true true false d e f = refl
      go true true true false e f = refl
      go true true true true false f = refl
      go true true true true true f = refl

-- THE RETURNS of find: c says whether the rows are sound as far as the cards tell, k whether their marks are right beside their owners
module _ (slots : List SlotRow) (n : ℕ) (cards : List (List ℕ)) (marks : List ℕ) (c : Bool) (p : c ≡ are_sound (take n slots) (rows_with cards)) (f : Bool) where
  pub cards_unsound : not c ≡ true → f ≡ false → f ≡ are_sound (take n slots) (marked_rows cards marks)
  cards_unsound o g = g ∙ sym (apart (take n slots) cards marks ∙ rw (← p, not-true c o))

  module _ (o : not c ≡ false) (m : ℕ) (os : List ℕ) (u : c ≡ true → take m os ≡ map (owner_number (map kept_name (take n slots))) (rows_with cards)) where
    pub owners_up : n ≤ 8 → AreUpTo 8 (take m os)
    owners_up h =
        let e = length-map (take n slots) kept_name in
        let l = take_short n slots in
        subst (AreUpTo 8) (sym (u (not-false c o))) (owners_low 8 (map kept_name (take n slots)) (omega (arith, h, l, e)) (rows_with cards))

    module _ (states : List ℕ) (x : states ≡ map state_in slots) (k : Bool) (h : k ≡ are_marks_right states (take m os) marks) (few : length cards ≤ 32) (long : length marks ≡ 32) where
      sound_cards : are_sound (take n slots) (rows_with cards) ≡ true
      sound_cards = sym p ∙ not-false c o

      marks_judged : every_row (is_mark_sound (take n slots)) (marked_rows cards marks) ≡ k
      marks_judged =
          let S = take n slots in
          let z = sound_parts S (rows_with cards) sound_cards in
          let e : take m os ≡ map (owner_number (map kept_name S)) (marked_rows cards marks) = u (not-false c o) ∙ sym (same_owners S cards marks (map kept_name S)) in
          marks_by_owners slots n z.0 z.1.0 cards marks (omega (arith, few, long)) (each_owned S cards marks ∙ z.1.1)
          ∙ ap (λ (l : List ℕ). are_marks_right (map state_in slots) l marks) (sym e) ∙ ap (λ (l : List ℕ). are_marks_right l (take m os) marks) (sym x) ∙ sym h
        where
          sound_parts : (S : List SlotRow) (R : List RegisterRow) → are_sound S R ≡ true → (every_row is_slot_sound S ≡ true) × ((distinct_rows is_same_slot S ≡ true) × (every_row (is_owned S) R ≡ true))
          sound_parts S R e = (slots_sound S R e, (slots_distinct S R e, registers_owned S R e))

      all_judged : are_sound (take n slots) (marked_rows cards marks) ≡ k
      all_judged = apart (take n slots) cards marks ∙ rw sound_cards marks_judged

      pub marks_wrong : not k ≡ true → f ≡ false → f ≡ are_sound (take n slots) (marked_rows cards marks)
      marks_wrong t g = g ∙ sym (not-true k t) ∙ sym all_judged

      pub marks_sound : not k ≡ false → c ≡ are_sound (take n slots) (marked_rows cards marks)
      marks_sound t = not-false c o ∙ sym (not-false k t) ∙ sym all_judged

module _ (cards : List (List ℕ)) (marks : List ℕ) (c : Bool) (k : List ℕ) where
  pub keys_told : (c ≡ true → k ≡ map key_number (rows_with cards)) → c ≡ true → k ≡ map key_number (marked_rows cards marks)
  keys_told v z = v z ∙ sym (same_keys [] cards marks)

  pub owners_told : (names : List (List ℕ)) → (c ≡ true → k ≡ map (owner_number names) (rows_with cards)) → c ≡ true → k ≡ map (owner_number names) (marked_rows cards marks)
  owners_told names v z = v z ∙ sym (same_owners [] cards marks names)
