-- Which key may vend, return by return. S and R are the rows of the tables t, whose places have the slot rows and the lent cards; os are the numbers of their owners.
use mathlib.Core.Path.{◌≡◌, refl, sym, ap, ◌∙◌}
use mathlib.Core.Bool.{Bool, true, false, not, ◌&&◌}
use mathlib.Core.List.{List, [], map}
use Prim.Native.Nat.{ℕ, ◌+◌, ◌-◌, ◌≤◌, ◌<◌}
use native.Mathlib.Omega.{arith}
use lib.Dec.{eqb}
use lib.ListN.{length, get_or, take}
use lib.Seq.{get_or-take, length-take-le}
use borrow.Author.Tests.{le-leb, lt-leb, not-true, not-false}
use Rattle.text_classes.specs.Classes.{are_all}
use Rattle.row_types.specs.Lists.{every_row}
use Rattle.row_types.specs.Slots.{is_slot_sound}
use Rattle.row_types.specs.Registers.{is_vacant, closed_mark, is_closed, free_register}
use Rattle.row_types.specs.Sound.{is_owned, are_sound}
use Rattle.row_types.specs.Index.{kept_name}
use Rattle.row_types.specs.declared.SlotRow.{SlotRow}
use Rattle.row_types.specs.declared.RegisterRow.{RegisterRow}
use Rattle.row_types.specs.declared.Tables.{Tables}
use Rattle.row_types.proofs.ListLaws.{every_at}
use Rattle.row_types.proofs.SoundLaws.{slots_sound, registers_owned}
use Rattle.row_index.specs.Found.{owner_number}
use Rattle.row_index.specs.Lent.{card_in, mark_in, marked_row, marked_rows, tables_with_marks}
use Rattle.row_index.proofs.LentLaws.{marked_front, marked_long, marked_at, tables_again}
use Rattle.row_index.proofs.OwnerLaws.{free_number, filled_number, owner_at}
use Rattle.engine.specs.Questions.{are_counts, register_numbered, is_filled}
use Rattle.engine.specs.Usable.{is_usable}

-- the cards of the rows are lent, and a register among them is one of 32 places
module _ (m : ℕ) (cards : List (List ℕ)) (z : length cards ≡ 32) (h : m ≤ 32) where
  lent_long : length (take m cards) ≡ m
  lent_long = length-take-le m cards (omega arith)

  pub lent_few : length (take m cards) ≤ 32
  lent_few = omega (arith, lent_long)

  pub lent_front : m ≡ length (take m cards)
  lent_front = sym lent_long

pub in_places : (i m : ℕ) → i ≤ m → m ≤ 32 → i ≤ 32
in_places i m l h = omega arith

-- a free row is owned, so that each place is
free_owned : (S : List SlotRow) → is_owned S free_register ≡ true
unfolding is_owned is_vacant free_register are_all
free_owned S = refl

module _ (slots : List SlotRow) (n : ℕ) (cards : List (List ℕ)) (marks : List ℕ) (m i : ℕ) (a : Bool) (p : a ≡ are_counts n m) where
  abbrev t : Tables
  t = tables_with_marks slots n cards marks m

  abbrev S : List SlotRow
  S = take n slots

  abbrev R : List RegisterRow
  R = take m (marked_rows cards marks)

  pub counts_no : not a ≡ true → false ≡ is_usable t i
  unfolding is_usable
  counts_no o = sym (rw (← p, not-true a o))

  module _ (o : not a ≡ false) (b : Bool) (q : b ≡ are_sound S (marked_rows (take m cards) marks)) where
    sound_is : b ≡ are_sound S R
    sound_is = q ∙ ap (are_sound S) (marked_front m cards marks)

    pub sound_no : not b ≡ true → false ≡ is_usable t i
    unfolding is_usable
    sound_no u = sym (rw (← p, not-false a o, ← sound_is, not-true b u))

    module _ (u : not b ≡ false) where
      -- what is left to be asked
      left : (y : Bool) → y ≡ (is_filled i R && is_closed (register_numbered i R)) → y ≡ is_usable t i
      unfolding is_usable
      left y e = e ∙ sym (rw (← p, not-false a o, ← sound_is, not-false b u))

      pub first_no_lem : i < 1 → false ≡ is_usable t i
      unfolding is_filled
      first_no_lem h = left false (sym (rw (lt-leb 1 i h)))

      module _ (z : length cards ≡ 32) (r : m ≤ 32) (h : 1 ≤ i) where
        rows_long : length R ≡ m
        rows_long = length-take-le m (marked_rows cards marks) (omega (arith, marked_long cards marks))

        pub beyond_no : m < i → false ≡ is_usable t i
        unfolding is_filled
        beyond_no k = left false (sym (rw (le-leb 1 i h, rows_long, lt-leb i m k)))

        module _ (k : i ≤ m) (os : List ℕ) (v : b ≡ true → take (length (take m cards)) os ≡ map (owner_number (map kept_name S)) (marked_rows (take m cards) marks)) where
          abbrev row : RegisterRow
          row = get_or R (i - 1) free_register

          owner_is : get_or os (i - 1) 0 ≡ owner_number (map kept_name S) row
          owner_is =
              let e : take m os ≡ map (owner_number (map kept_name S)) R = rw (lent_long m cards z r, marked_front m cards marks) at (v (not-false b u)) in
              sym (get_or-take m os (i - 1) 0 (omega arith)) ∙ ap (λ (l : List ℕ). get_or l (i - 1) 0) e ∙ owner_at (map kept_name S) R (i - 1)

          all_sound : are_sound S R ≡ true
          all_sound = sym sound_is ∙ not-false b u

          sound_slots : every_row is_slot_sound S ≡ true
          sound_slots = slots_sound S R all_sound

          row_owned : is_owned S row ≡ true
          row_owned = every_at (is_owned S) free_register (free_owned S) R (registers_owned S R all_sound) (i - 1)

          -- j is the number of its owner
          module _ (j : ℕ) (g : j ≡ get_or os (i - 1) 0) where
            pub free_no : j ≡ 0 → false ≡ is_usable t i
            unfolding is_filled
            free_no e = left false (sym (rw (le-leb 1 i h, rows_long, le-leb i m k, free_number S sound_slots row row_owned (sym owner_is ∙ sym g ∙ e))))

            filled : (j ≡ 0 → ⊥) → is_vacant row ≡ false
            filled f = let e : j ≡ j - 1 + 1 = omega (arith, f) in (filled_number S sound_slots row row_owned (j - 1) (sym owner_is ∙ sym g ∙ e)).0

            pub mark_decides : (j ≡ 0 → ⊥) → length marks ≡ 32 → (c : Bool) → c ≡ eqb (get_or marks (i - 1) 0) closed_mark → c ≡ is_usable t i
            unfolding is_filled is_closed
            mark_decides f y c e =
                let r : row ≡ marked_row (get_or cards (i - 1) []) (get_or marks (i - 1) 0) = get_or-take m (marked_rows cards marks) (i - 1) free_register (omega arith) ∙ marked_at cards marks (i - 1) free_register (y ∙ sym z) (omega arith) in
                left c (e ∙ sym (rw (le-leb 1 i h, rows_long, le-leb i m k, filled f, r)))

-- is_usable_in: cards and marks of the rows are lent
pub usable_in : (t : Tables) (cards : List (List ℕ)) (marks : List ℕ) → cards ≡ map card_in t.registers → marks ≡ map mark_in t.registers → (i : ℕ) (b : Bool)
    → b ≡ is_usable (tables_with_marks t.slots t.slot_count cards marks t.register_count) i → b ≡ is_usable t i
usable_in t cards marks w v i b e = e ∙ ap (λ (u : Tables). is_usable u i) (tables_again t.slots t.slot_count t.registers t.register_count cards marks w v)
