-- Free has one meaning among sound rows: the rows in state 0 are those whose every byte is zero.
use mathlib.Core.Path.{◌≡◌, refl}
use mathlib.Core.Bool.{Bool, true, false, not, ◌&&◌, ◌||◌}
use mathlib.Core.List.{List}
use Prim.Native.Nat.{ℕ}
use native.Mathlib.Omega.{arith}
use lib.Dec.{eqb, leb}
use borrow.Author.Tests.{leb-true, eqb-true}
use Rattle.byte_strings.specs.Strings.{same_bytes}
use Rattle.byte_strings.proofs.Flags.{and_first}
use Rattle.row_types.specs.Slots.{is_zero_slot, has_state, kmcid_of, is_named, is_filled_slot, is_slot_sound}
use Rattle.row_types.specs.declared.SlotRow.{SlotRow}
use Rattle.row_types.specs.declared.SlotState.TheVariants.{Free}

not_zero : (n : ℕ) → leb 1 n ≡ true → eqb n 0 ≡ false
not_zero n e = go (eqb n 0) refl
  where
    go : (b : Bool) → eqb n 0 ≡ b → b ≡ false
    go true q = let z = eqb-true n 0 q in let h = leb-true 1 n e in absurd (omega arith)
    go false q = refl

zero_state : (r : SlotRow) → is_zero_slot r ≡ true → has_state Free r ≡ true
unfolding is_zero_slot
zero_state r e = and_first (has_state Free r) _ e

module _ (r : SlotRow) (h : is_slot_sound r ≡ true) where
  pub free_is_zero : has_state Free r ≡ is_zero_slot r
  unfolding is_slot_sound
  free_is_zero = go (is_zero_slot r) refl h
    where
      go : (b : Bool) → is_zero_slot r ≡ b → (b || (leb 1 r.state && (leb r.state 3 && is_filled_slot r))) ≡ true → has_state Free r ≡ b
      go true e w = zero_state r e
      go false e w = not_zero r.state (and_first (leb 1 r.state) _ w)

  -- so a name is read of the rows that are not zero
  pub named_not_zero : (s : List ℕ) → is_named s r ≡ (not (is_zero_slot r) && same_bytes (kmcid_of r) s)
  unfolding is_named
  named_not_zero s = rw free_is_zero refl
