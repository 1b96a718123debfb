-- The tests of question 3 in turn, each with what the code knows where it answers as premises: R are the register rows, as far as their cards tell them.
use mathlib.Core.Path.{◌≡◌, refl, sym, ap, ◌∙◌}
use mathlib.Core.Bool.{Bool, true, false, not, ◌&&◌, and-true}
use mathlib.Core.List.{List, [], ◌∷◌, map}
use Prim.Native.Nat.{ℕ, zero, suc, ◌≤◌}
use native.Mathlib.Omega.{arith}
use lib.ListN.{length, take, length-map}
use lib.Seq.{length-take-le}
use borrow.Author.Tests.{not-true, not-false}
use Rattle.byte_strings.proofs.Flags.{and_first, and_second}
use Rattle.row_types.specs.Lists.{every_row, distinct_rows}
use Rattle.row_types.specs.Slots.{is_slot_sound, is_same_slot}
use Rattle.row_types.specs.Registers.{is_register_sound, is_same_key, is_closed}
use Rattle.row_types.specs.Index.{kept_name, is_same_name, is_owned_by, key_number, is_same_number}
use Rattle.row_types.specs.Sound.{is_owned, is_mark_sound, are_sound}
use Rattle.row_types.specs.declared.SlotRow.{SlotRow}
use Rattle.row_types.specs.declared.RegisterRow.{RegisterRow}
use Rattle.row_index.specs.Found.{owner_number}
use Rattle.row_index.specs.Lent.{rows_with}
use Rattle.register_keys.specs.Judged.{is_sound_under}
use Rattle.row_index.proofs.NameLaws.{distinct_names, every_owned}
use Rattle.row_index.proofs.KeyLaws.{distinct_keys}

-- what is read of the first rows is the first of what is read
take_map : {A B : Type 0} (f : A → B) (n : ℕ) (l : List A) → take n (map f l) ≡ map f (take n l)
take_map f zero l = refl
take_map f (suc n) [] = refl
take_map {A} {B} f (suc n) (x ∷ xs) = ap (λ (r : List B). f x ∷ r) (take_map f n xs)

-- of an array that a function filled
pub filled_room : {A B : Type 0} (f : A → B) (l : List A) (k : List B) (n m : ℕ) → length l ≡ m → k ≡ map f l → n ≤ m → n ≤ length k
filled_room f l k n m z e h = let y : length k ≡ length l = ap length e ∙ length-map l f in omega arith

pub filled_front : {A B : Type 0} (f : A → B) (l : List A) (k : List B) (n m : ℕ) → length l ≡ m → k ≡ map f l → n ≤ m → n ≡ length (take n k)
filled_front f l k n m z e h = sym (length-take-le n k (filled_room f l k n m z e h))

pub keys_front : (k : List ℕ) (n : ℕ) → length k ≡ 32 → n ≤ 32 → n ≡ length (take n k)
keys_front k n z h = sym (length-take-le n k (omega arith))

-- rows that pass two tests pass each
every_both : (names : List (List ℕ)) (l : List RegisterRow) → every_row (is_sound_under names) l ≡ (every_row is_register_sound l && every_row (is_owned_by names) l)
unfolding is_sound_under
every_both names [] = refl
every_both names (x ∷ xs) = rw (every_both names xs) (swap (is_register_sound x) (is_owned_by names x) (every_row is_register_sound xs) (every_row (is_owned_by names) xs))
  where
    swap : (a b c d : Bool) → ((a && b) && (c && d)) ≡ ((a && c) && (b && d))
    swap true true c d = refl
    swap true false true d = refl
    swap true false false d = refl
    swap false b c d = refl

between_false : (a b c : Bool) → (a && c) ≡ false → (a && (b && c)) ≡ false
between_false true true c e = e
between_false true false c e = refl
between_false false b c e = refl

-- cards alone are those of closed rows, whose marks are sound
pub closed_sound : (S : List SlotRow) (cards : List (List ℕ)) → every_row (is_mark_sound S) (rows_with cards) ≡ true
unfolding is_mark_sound is_closed
closed_sound S [] = refl
closed_sound S (c ∷ cs) = closed_sound S cs

module _ (slots : List SlotRow) (n : ℕ) (cards : List (List ℕ)) (a : Bool) (p : a ≡ every_row is_slot_sound (take n slots)) (f : Bool) where
  abbrev R : List RegisterRow
  R = rows_with cards

  pub slots_unsound : not a ≡ true → f ≡ false → f ≡ are_sound (take n slots) R
  unfolding are_sound
  slots_unsound o g = g ∙ sym (rw (← p, not-true a o))

  module _ (o : not a ≡ false) (names : List (List ℕ)) (w : names ≡ map kept_name slots) (b : Bool) (q : b ≡ distinct_rows is_same_name (take n names)) where
    sound_slots : every_row is_slot_sound (take n slots) ≡ true
    sound_slots = sym p ∙ not-false a o

    first_names : take n names ≡ map kept_name (take n slots)
    first_names = ap (take n) w ∙ take_map kept_name n slots

    names_judged : distinct_rows is_same_slot (take n slots) ≡ b
    names_judged = distinct_names (take n slots) sound_slots ∙ ap (distinct_rows is_same_name) (sym first_names) ∙ sym q

    pub names_alike : not b ≡ true → f ≡ false → f ≡ are_sound (take n slots) R
    unfolding are_sound
    names_alike i g = g ∙ sym (rw (sound_slots, names_judged, not-true b i))

    -- c says whether each register is sound by itself and owned
    module _ (i : not b ≡ false) (c : Bool) (r : c ≡ every_row (is_sound_under (take n names)) R) where
      owners_read : every_row (is_owned (take n slots)) R ≡ every_row (is_owned_by (take n names)) R
      owners_read = every_owned (take n slots) sound_slots R ∙ ap (λ (l : List (List ℕ)). every_row (is_owned_by l) R) (sym first_names)

      both_read : (every_row is_register_sound R && every_row (is_owned (take n slots)) R) ≡ c
      both_read = rw owners_read (sym (every_both (take n names) R) ∙ sym r)

      pub registers_unsound : not c ≡ true → f ≡ false → f ≡ are_sound (take n slots) R
      unfolding are_sound
      registers_unsound j g =
          let e = between_false (every_row is_register_sound R) (distinct_rows is_same_key R) (every_row (is_owned (take n slots)) R) (both_read ∙ not-true c j) in
          g ∙ sym (rw (sound_slots, names_judged, not-false b i, closed_sound (take n slots) cards, and-true (every_row (is_owned (take n slots)) R), e))

      module _ (j : not c ≡ false) (m : ℕ) (keys : List ℕ) (v : c ≡ true → take m keys ≡ map key_number R) (d : Bool) (s : d ≡ distinct_rows is_same_number (take m keys)) where
        both_true : (every_row is_register_sound R && every_row (is_owned (take n slots)) R) ≡ true
        both_true = both_read ∙ not-false c j

        sound_registers : every_row is_register_sound R ≡ true
        sound_registers = and_first (every_row is_register_sound R) _ both_true

        owned_registers : every_row (is_owned (take n slots)) R ≡ true
        owned_registers = and_second (every_row is_register_sound R) _ both_true

        keys_judged : d ≡ are_sound (take n slots) R
        unfolding are_sound
        keys_judged =
            let k : distinct_rows is_same_key R ≡ d = distinct_keys R sound_registers ∙ ap (distinct_rows is_same_number) (sym (v (not-false c j))) ∙ sym s in
            sym (rw (sound_slots, names_judged, not-false b i, sound_registers, k, owned_registers, closed_sound (take n slots) cards, and-true d))

        pub keys_alike : not d ≡ true → f ≡ false → f ≡ are_sound (take n slots) R
        keys_alike y g = g ∙ sym (not-true d y) ∙ keys_judged

        pub all_sound : not d ≡ false → c ≡ are_sound (take n slots) R
        all_sound y = not-false c j ∙ sym (not-false d y) ∙ keys_judged

-- the owners are told by the names of the slot rows
pub owners_named : (slots : List SlotRow) (n : ℕ) (R : List RegisterRow) (names : List (List ℕ)) → names ≡ map kept_name slots → (c : Bool) (o : List ℕ) → (c ≡ true → o ≡ map (owner_number (take n names)) R)
    → c ≡ true → o ≡ map (owner_number (map kept_name (take n slots))) R
owners_named slots n R names w c o u z = u z ∙ ap (λ (l : List (List ℕ)). map (owner_number l) R) (ap (take n) w ∙ take_map kept_name n slots)

pub ruleset unsound_cases = (slots_unsound, names_alike, registers_unsound, keys_alike)
