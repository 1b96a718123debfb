-- A slot row is known by its name as it is kept: a free row keeps none, and any other an identifier.
use mathlib.Core.Path.{◌≡◌, refl, sym}
use mathlib.Core.Bool.{Bool, true, false, not, ◌&&◌, ◌||◌}
use mathlib.Core.List.{List, [], ◌∷◌, map}
use Prim.Native.Nat.{ℕ, ◌≤◌}
use native.Mathlib.Omega.{arith}
use lib.Dec.{eqb, leb}
use lib.ListN.{length}
use borrow.Author.Tests.{leb-true, eqb-true, ne_eqb}
use Rattle.byte_strings.specs.Strings.{same_bytes}
use Rattle.byte_strings.proofs.Flags.{and_first, and_second}
use Rattle.text_classes.specs.Classes.{are_all}
use Rattle.text_classes.specs.declared.Class.TheVariants.{Zero}
use Rattle.text_classes.proofs.Identify.{name_some}
use Rattle.card_attributes.specs.Table.{KSL}
use Rattle.row_types.specs.Lists.{every_row, distinct_rows, trimmed}
use Rattle.row_types.specs.Slots.{is_zero_slot, has_state, kmcid_of, is_named, is_filled_slot, is_slot_sound, is_same_slot}
use Rattle.row_types.specs.Registers.{attribute_of}
use Rattle.row_types.specs.Sound.{is_owned}
use Rattle.row_types.specs.Index.{kept_name, is_called, is_same_name, is_owned_by}
use Rattle.row_types.specs.declared.SlotRow.{SlotRow}
use Rattle.row_types.specs.declared.RegisterRow.{RegisterRow}
use Rattle.row_types.specs.declared.SlotState.TheVariants.{Free}
use Rattle.row_types.proofs.RowReplyLaws.{sound_kmcid}
use Rattle.row_index.proofs.Readings.{some_read, distinct_read, every_alike}

zeros_trimmed : (k : List ℕ) → are_all Zero k ≡ true → trimmed k ≡ []
unfolding are_all trimmed
zeros_trimmed [] e = refl
zeros_trimmed (b ∷ bs) e = let z : eqb b 0 ≡ true = and_first (eqb b 0) (are_all Zero bs) e in rw z refl

-- a sound row
module _ (r : SlotRow) (h : is_slot_sound r ≡ true) where
  free_name : has_state Free r ≡ true → kmcid_of r ≡ []
  unfolding is_slot_sound is_zero_slot
  free_name o = go (is_zero_slot r) refl h
    where
      go : (b : Bool) → is_zero_slot r ≡ b → (b || (leb 1 r.state && (leb r.state 3 && is_filled_slot r))) ≡ true → kmcid_of r ≡ []
      go true q w = zeros_trimmed r.kmcid (and_first (are_all Zero r.kmcid) _ (and_second (eqb r.state 0) _ q))
      go false q w =
          let l = leb-true 1 r.state (and_first (leb 1 r.state) (leb r.state 3 && is_filled_slot r) w) in
          let z = eqb-true r.state 0 o in
          absurd (omega arith)

  used_name : has_state Free r ≡ false → 1 ≤ length (kmcid_of r)
  used_name o = name_some (kmcid_of r) (sound_kmcid r h o)

-- no name is called by no byte
called_none : (name : List ℕ) → trimmed name ≡ [] → (s : List ℕ) → is_called s name ≡ false
unfolding is_called
called_none name e [] = refl
called_none name e (x ∷ xs) = rw (e, ne_eqb (length (x ∷ xs)) 0 (λ z. omega (arith, z))) refl

none_called : (name : List ℕ) → is_called [] name ≡ false
unfolding is_called
none_called name = refl

called_some : (name : List ℕ) → 1 ≤ length (trimmed name) → (s : List ℕ) → is_called s name ≡ same_bytes (trimmed name) s
unfolding is_called
called_some name l (x ∷ xs) = rw (ne_eqb (length (x ∷ xs)) 0 (λ z. omega (arith, z))) refl
called_some name l [] = go (trimmed name) l
  where
    go : (k : List ℕ) → 1 ≤ length k → false ≡ same_bytes k []
    go [] l = absurd (omega arith)
    go (x ∷ xs) l = refl

-- THE LAWS. A sound row that is not free and has the name is one whose kept name it is:
pub named_called : (s : List ℕ) (r : SlotRow) → is_slot_sound r ≡ true → is_named s r ≡ is_called s r.kmcid
unfolding is_named
named_called s r h = go (has_state Free r) refl
  where
    go : (b : Bool) → has_state Free r ≡ b → (not b && same_bytes (kmcid_of r) s) ≡ is_called s r.kmcid
    go true o = sym (called_none r.kmcid (free_name r h o) s)
    go false o = sym (called_some r.kmcid (used_name r h o) s)

-- so two rows keep one KMCID where their kept names are one,
pub same_slot_name : (a b : SlotRow) → is_slot_sound a ≡ true → is_slot_sound b ≡ true → is_same_slot a b ≡ is_same_name a.kmcid b.kmcid
unfolding is_same_slot is_same_name
same_slot_name a b h k = rw (named_called (kmcid_of a) b k) (go (has_state Free a) refl)
  where
    go : (t : Bool) → has_state Free a ≡ t → (not t && is_called (kmcid_of a) b.kmcid) ≡ is_called (kmcid_of a) b.kmcid
    go true o = rw (free_name a h o) (sym (none_called b.kmcid))
    go false o = refl

-- no two do where no two of the names are one,
pub distinct_names : (l : List SlotRow) → every_row is_slot_sound l ≡ true → distinct_rows is_same_slot l ≡ distinct_rows is_same_name (map kept_name l)
distinct_names l e = distinct_read is_slot_sound kept_name is_same_slot is_same_name same_slot_name l e

-- and a register belongs to a slot where its KSL is one of the names
module _ (l : List SlotRow) (e : every_row is_slot_sound l ≡ true) where
  pub owned_by : (r : RegisterRow) → is_owned l r ≡ is_owned_by (map kept_name l) r
  unfolding is_owned is_owned_by
  owned_by r = rw (some_read is_slot_sound kept_name (is_named (attribute_of KSL r)) (is_called (attribute_of KSL r)) (named_called (attribute_of KSL r)) l e) refl

  pub every_owned : (rs : List RegisterRow) → every_row (is_owned l) rs ≡ every_row (is_owned_by (map kept_name l)) rs
  every_owned rs = every_alike (is_owned l) (is_owned_by (map kept_name l)) owned_by rs
