-- The number of a register's owner: it tells which registers hold a key of a slot, and which slot a register's card names. S are slot rows that are sound.
use mathlib.Core.Path.{◌≡◌, refl, sym, ap, ◌∙◌}
use mathlib.Core.Bool.{Bool, true, false, not, cond, ◌&&◌}
use mathlib.Core.List.{List, [], ◌∷◌, map}
use mathlib.Core.Option.{some}
use Prim.Native.Nat.{ℕ, zero, suc, ◌+◌, ◌≤◌}
use native.Mathlib.Omega.{arith}
use lib.Dec.{eqb}
use lib.ListN.{length, get_or}
use borrow.Author.Tests.{eq-eqb, ne_eqb}
use Rattle.byte_strings.specs.Strings.{same_bytes}
use Rattle.byte_strings.proofs.Flags.{nope, and_second}
use Rattle.byte_strings.proofs.StringLaws.{same_self, same_equal}
use Rattle.card_attributes.specs.Table.{KSL}
use Rattle.text_classes.specs.Classes.{are_all}
use Rattle.row_types.specs.Lists.{every_row, some_row, first_from}
use Rattle.row_types.specs.Slots.{has_state, kmcid_of, is_named, is_slot_sound, free_slot}
use Rattle.row_types.specs.Registers.{is_vacant, attribute_of, is_under, free_register}
use Rattle.row_types.specs.Sound.{is_owned}
use Rattle.row_types.specs.Index.{kept_name, is_called}
use Rattle.row_types.specs.declared.SlotRow.{SlotRow}
use Rattle.row_types.specs.declared.RegisterRow.{RegisterRow}
use Rattle.row_types.specs.declared.SlotState.TheVariants.{Free}
use Rattle.row_types.proofs.ListLaws.{found}
use Rattle.row_index.specs.Found.{number_of, owner_number, is_the, AreOwnedBy}
use Rattle.row_index.proofs.Readings.{some_read, first_read}
use Rattle.row_index.proofs.NameLaws.{named_called}
use Rattle.row_index.proofs.NumberOf.{some_number, number_at, place_at, number_low}

module _ (S : List SlotRow) (sound : every_row is_slot_sound S ≡ true) where
  -- the place of a slot is that of its kept name
  pub named_first : (s : List ℕ) → first_from (is_named s) 0 S ≡ first_from (is_called s) 0 (map kept_name S)
  named_first s = first_read is_slot_sound kept_name (is_named s) (is_called s) (named_called s) 0 S sound

  -- two names of one place are one
  one_name_lem : (s v : List ℕ) (k : ℕ) → first_from (is_named s) 0 S ≡ some k → first_from (is_named v) 0 S ≡ some k → v ≡ s
  unfolding is_named
  one_name_lem s v k p q =
      let a = and_second (not (has_state Free (get_or S k free_slot))) _ (found (is_named s) free_slot S k p).1 in
      let b = and_second (not (has_state Free (get_or S k free_slot))) _ (found (is_named v) free_slot S k q).1 in
      sym (same_equal (kmcid_of (get_or S k free_slot)) v b) ∙ same_equal (kmcid_of (get_or S k free_slot)) s a

  -- a register is under the slot in row k just where its owner has the number of that row
  module _ (s : List ℕ) (k : ℕ) (p : first_from (is_named s) 0 S ≡ some k) where
    filled : (v : List ℕ) → eqb (number_of (is_called v) (map kept_name S)) (k + 1) ≡ same_bytes v s
    filled v = go (same_bytes v s) refl
      where
        go : (t : Bool) → same_bytes v s ≡ t → eqb (number_of (is_called v) (map kept_name S)) (k + 1) ≡ t
        go true o =
            let e : v ≡ s = same_equal v s o in
            eq-eqb _ (k + 1) (ap (λ (w : List ℕ). number_of (is_called w) (map kept_name S)) e ∙ number_at (is_called s) (map kept_name S) k (sym (named_first s) ∙ p))
        go false o = ne_eqb _ (k + 1) other
          where
            other : number_of (is_called v) (map kept_name S) ≡ k + 1 → ⊥
            other e =
                let w : v ≡ s = one_name_lem s v k p (named_first v ∙ place_at (is_called v) (map kept_name S) k e) in
                let y : same_bytes v s ≡ true = rw w (same_self s) in
                nope (cc)

    under_number : (r : RegisterRow) → eqb (owner_number (map kept_name S) r) (k + 1) ≡ is_under s r
    unfolding owner_number is_under
    under_number r = go (is_vacant r) refl
      where
        go : (t : Bool) → is_vacant r ≡ t → eqb (cond t 0 (number_of (is_called (attribute_of KSL r)) (map kept_name S))) (k + 1) ≡ (not t && same_bytes (attribute_of KSL r) s)
        go true o = ne_eqb 0 (k + 1) (λ z. omega arith)
        go false o = filled (attribute_of KSL r)

    pub owned_by_number : (R : List RegisterRow) → AreOwnedBy (k + 1) s (map (owner_number (map kept_name S)) R) R
    owned_by_number [] = refl
    owned_by_number (x ∷ xs) = let a = under_number x in let b = owned_by_number xs in cc

  -- the number of an owned register: 0 is that of a free one, and any other that of the row of its slot
  module _ (r : RegisterRow) (owned : is_owned S r ≡ true) where
    some_named : is_vacant r ≡ false → eqb (number_of (is_called (attribute_of KSL r)) (map kept_name S)) 0 ≡ false
    unfolding is_owned
    some_named o =
        let a : some_row (is_named (attribute_of KSL r)) S ≡ true = rw o at owned in
        let b = some_read is_slot_sound kept_name (is_named (attribute_of KSL r)) (is_called (attribute_of KSL r)) (named_called (attribute_of KSL r)) S sound in
        not_false_of _ (sym (some_number (is_called (attribute_of KSL r)) (map kept_name S)) ∙ sym b ∙ a)
      where
        not_false_of : (t : Bool) → not t ≡ true → t ≡ false
        not_false_of true e = nope (cc)
        not_false_of false e = refl

    pub free_number : owner_number (map kept_name S) r ≡ 0 → is_vacant r ≡ true
    unfolding owner_number
    free_number e = go (is_vacant r) refl e
      where
        go : (t : Bool) → is_vacant r ≡ t → cond t 0 (number_of (is_called (attribute_of KSL r)) (map kept_name S)) ≡ 0 → is_vacant r ≡ true
        go true o w = o
        go false o w = let a = some_named o in let b : eqb (number_of (is_called (attribute_of KSL r)) (map kept_name S)) 0 ≡ true = eq-eqb _ 0 w in nope (cc)

    pub filled_number : (k : ℕ) → owner_number (map kept_name S) r ≡ k + 1 → (is_vacant r ≡ false) × (first_from (is_named (attribute_of KSL r)) 0 S ≡ some k)
    unfolding owner_number
    filled_number k e = go (is_vacant r) refl e
      where
        go : (t : Bool) → is_vacant r ≡ t → cond t 0 (number_of (is_called (attribute_of KSL r)) (map kept_name S)) ≡ k + 1 → (is_vacant r ≡ false) × (first_from (is_named (attribute_of KSL r)) 0 S ≡ some k)
        go true o w = absurd (omega arith)
        go false o w = (o, named_first (attribute_of KSL r) ∙ place_at (is_called (attribute_of KSL r)) (map kept_name S) k w)

-- the number of an owner is that of one of the names, or 0
pub owner_low : (names : List (List ℕ)) (r : RegisterRow) → owner_number names r ≤ length names
unfolding owner_number
owner_low names r = go (is_vacant r)
  where
    go : (t : Bool) → cond t 0 (number_of (is_called (attribute_of KSL r)) names) ≤ length names
    go true = omega arith
    go false = number_low (is_called (attribute_of KSL r)) names

-- the numbers of rows, one by one
pub owner_at : (names : List (List ℕ)) (R : List RegisterRow) (j : ℕ) → get_or (map (owner_number names) R) j 0 ≡ owner_number names (get_or R j free_register)
unfolding owner_number free_register is_vacant are_all
owner_at names [] j = refl
owner_at names (x ∷ xs) zero = refl
owner_at names (x ∷ xs) (suc j) = owner_at names xs j
