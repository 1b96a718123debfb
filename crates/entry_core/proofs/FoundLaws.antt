-- What question 3 finds, return by return: S are the slot rows, cards and marks those of all places, m how many of them are the caller's.
use mathlib.Core.Path.{◌≡◌, sym, ap, ◌∙◌}
use mathlib.Core.Bool.{Bool, true, not}
use mathlib.Core.List.{List, map}
use Prim.Native.Nat.{ℕ, ◌≤◌}
use native.Mathlib.Omega.{arith}
use lib.ListN.{length, take}
use lib.Seq.{length-take-le}
use borrow.Author.Tests.{not-true}
use Rattle.byte_strings.proofs.Flags.{nope}
use Rattle.row_types.specs.Sound.{are_sound}
use Rattle.row_types.specs.Index.{kept_name, key_number}
use Rattle.row_types.specs.declared.SlotRow.{SlotRow}
use Rattle.row_types.proofs.SoundLaws.{registers_sound}
use Rattle.row_index.specs.Found.{owner_number}
use Rattle.row_index.specs.Lent.{marked_rows}
use Rattle.row_index.proofs.LentLaws.{marked_front}
use Rattle.engine.specs.Questions.{are_counts}
use Rattle.decide_requests.specs.Found.{IsFound}
use Rattle.entry_core.specs.Owners.{AreOwners}

-- counts that are out of range are not in range
pub not_counted : {X : Type 0} (n m : ℕ) (a : Bool) → a ≡ are_counts n m → not a ≡ true → are_counts n m ≡ true → X
not_counted n m a p o z = let q = not-true a o in nope (cc)

module _ (m : ℕ) (cards : List (List ℕ)) (z : length cards ≡ 32) (h : m ≤ 32) where
  lent_long : length (take m cards) ≡ m
  lent_long = length-take-le m cards (omega arith)

  pub lent_few : length (take m cards) ≤ 32
  lent_few = let e = lent_long in omega arith

  pub lent_front : m ≡ length (take m cards)
  lent_front = sym lent_long

  module _ (marks : List ℕ) (S : List SlotRow) (b : Bool) (q : b ≡ are_sound S (marked_rows (take m cards) marks)) where
    sound_is : b ≡ are_sound S (take m (marked_rows cards marks))
    sound_is = q ∙ ap (are_sound S) (marked_front m cards marks)

    pub is_found : (keys : List ℕ) → (b ≡ true → take (length (take m cards)) keys ≡ map key_number (marked_rows (take m cards) marks)) → IsFound b keys S (take m (marked_rows cards marks)) m
    is_found keys v = (sound_is, λ y. (registers_sound S (take m (marked_rows cards marks)) (sym sound_is ∙ y), (rw (lent_long, marked_front m cards marks) at (v y))))

    pub are_owners : (owners : List ℕ) → (b ≡ true → take (length (take m cards)) owners ≡ map (owner_number (map kept_name S)) (marked_rows (take m cards) marks)) → AreOwners owners S (take m (marked_rows cards marks)) m
    are_owners owners v y = rw (lent_long, marked_front m cards marks) at (v (sound_is ∙ y))
