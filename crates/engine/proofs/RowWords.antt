-- What rows say in the words of demand 3, and what the rows say that the engine writes.
use mathlib.Core.Path.{◌≡◌, refl, sym, ap, ◌∙◌}
use mathlib.Core.Bool.{Bool, true, false, cond, not, ◌&&◌, ◌||◌}
use mathlib.Core.List.{List, [], ◌∷◌, map}
use mathlib.Core.Option.{Option}
use Prim.Native.Nat.{ℕ, ◌≤◌}
use lib.Dec.{eqb, leb}
use lib.ListN.{length, get_or, get_or-map}
use borrow.Author.Tests.{leb-true, eqb-true}
use Rattle.byte_strings.specs.Strings.{same_bytes, is_not, all_of}
use Rattle.byte_strings.proofs.Flags.{nope, and_first, and_second, no, holds}
use Rattle.byte_strings.proofs.StringLaws.{same_self, same_equal}
use Rattle.text_classes.specs.Classes.{are_all, is_alphanumeric, is_mark}
use Rattle.text_classes.specs.Identifiers.{is_identifier}
use Rattle.text_classes.specs.declared.Class.TheVariants.{Identifier}
use Rattle.text_classes.proofs.ClassLaws.{class_plain}
use Rattle.text_decimals.specs.Decimals.{is_number, is_unpadded}
use Rattle.text_forms.specs.Forms.{in_form}
use Rattle.text_forms.specs.declared.Form.TheVariants.{Hex}
use Rattle.card_attributes.specs.Table.{SGC, KRN, KSL, table}
use Rattle.card_entries.specs.Entries.{or_else, entry_bytes}
use Rattle.card_incoming.specs.Incoming.{is_incoming}
use Rattle.card_stored.specs.Stored.{load_values, stored_card, in_row}
use Rattle.card_laws.proofs.Incoming.{sgc_back, krn_back, ksl_back}
use Rattle.row_types.specs.Lists.{trimmed}
use Rattle.row_types.specs.Slots.{state_number, is_zero_slot, has_state, kmcid_of, is_named, is_filled_slot, is_slot_sound, is_same_slot, free_slot, filled_slot, moved_slot, reset_slot}
use Rattle.row_types.specs.Registers.{is_vacant, attribute_of, is_key_of, is_under, is_register_sound, is_open, free_register, filled_register, without_slot, closed_row, closed_under}
use Rattle.row_types.specs.declared.SlotRow.{SlotRow}
use Rattle.row_types.specs.declared.RegisterRow.{RegisterRow}
use Rattle.row_types.specs.declared.SlotState.{SlotState}
use Rattle.row_types.specs.declared.SlotState.TheVariants.{Free, Pending, Loading, Idle}
use Rattle.row_types.proofs.ListLaws.{trimmed_padded, trimmed_all}
use Rattle.row_types.proofs.FreeSlots.{free_is_zero}
use Rattle.history.specs.Model.{State, free, used, Carried, vacant, key, drop_key, close_key, close_any, stopped}
use Rattle.engine.specs.Questions.{group_in, revision_in}
use Rattle.engine.specs.Words.{state_in, slot_is, register_is}

-- SLOTS
pub free_reads : slot_is free_slot ≡ free
unfolding slot_is free_slot is_zero_slot are_all
free_reads = refl

pub slot_row_lem : (slots : List SlotRow) (i : ℕ) → get_or (map slot_is slots) i free ≡ slot_is (get_or slots i free_slot)
slot_row_lem slots i = rw free_reads at (get_or-map slot_is slots i free_slot)

pub identifier_short : (k : List ℕ) → is_identifier k ≡ true → length k ≤ 40
unfolding is_identifier
identifier_short k e =
    leb-true (length k) 40 (and_first (leb (length k) 40) (is_alphanumeric (get_or k 0 0) && are_all Identifier k) (and_second (leb 1 (length k)) _ e))

pub identifier_plain : (k : List ℕ) → is_identifier k ≡ true → all_of (is_not 0) k ≡ true
unfolding is_identifier is_alphanumeric is_mark
identifier_plain k e =
    class_plain Identifier 0 k refl (and_second (is_alphanumeric (get_or k 0 0)) (are_all Identifier k) (and_second (leb (length k) 40) _ (and_second (leb 1 (length k)) _ e)))

-- a row whose state is not free
pub used_reads : (v : SlotRow) → eqb v.state 0 ≡ false → slot_is v ≡ used (kmcid_of v) (state_in v.state)
unfolding slot_is is_zero_slot
used_reads v o = rw o refl

module _ (v : SlotRow) (s : List ℕ) (e : is_named s v ≡ true) where
  pub named_state : eqb v.state 0 ≡ false
  unfolding is_named
  named_state = no (eqb v.state 0) (holds (not (eqb v.state 0)) (and_first (not (eqb v.state 0)) (same_bytes (kmcid_of v) s) e))

  pub named_name : kmcid_of v ≡ s
  unfolding is_named
  named_name = same_equal (kmcid_of v) s (and_second (not (eqb v.state 0)) (same_bytes (kmcid_of v) s) e)

  pub named_reads : slot_is v ≡ used s (state_in v.state)
  named_reads = used_reads v named_state ∙ ap (λ (k : List ℕ). used k (state_in v.state)) named_name

-- two rows keep one KMCID where both are named by it
pub one_name_lem : (s : List ℕ) (a b : SlotRow) → is_named s a ≡ true → is_named s b ≡ true → is_same_slot a b ≡ true
unfolding is_same_slot
one_name_lem s a b p q = rw (named_state a s p, named_name a s p) q

-- a row that is neither PENDING nor LOADING
idle_stays : (v : SlotRow) → has_state Pending v ≡ false → has_state Loading v ≡ false → slot_is v ≡ stopped (slot_is v)
unfolding slot_is stopped
idle_stays v e f = go (is_zero_slot v)
  where
    go : (b : Bool) → cond b free (used (kmcid_of v) (state_in v.state)) ≡ stopped (cond b free (used (kmcid_of v) (state_in v.state)))
    go true = refl
    go false = rw (e, f) refl

-- a sound row
module _ (v : SlotRow) (h : is_slot_sound v ≡ true) where
  -- it reads as free by its state too
  pub slot_by_state : slot_is v ≡ cond (has_state Free v) free (used (kmcid_of v) (state_in v.state))
  unfolding slot_is
  slot_by_state = rw (free_is_zero v h) refl

  pub reads_named : (s : List ℕ) (a : State) → slot_is v ≡ used s a → is_named s v ≡ true
  unfolding is_named
  reads_named s a e = go (has_state Free v) (sym slot_by_state ∙ e)
    where
      go : (b : Bool) → cond b free (used (kmcid_of v) (state_in v.state)) ≡ used s a → (not b && same_bytes (kmcid_of v) s) ≡ true
      go true q = nope (cc)
      go false q = let z : kmcid_of v ≡ s = cc in rw z (same_self s)

  pub free_state_reads : has_state Free v ≡ true → slot_is v ≡ free
  free_state_reads e = slot_by_state ∙ rw e refl

  pub sound_name : eqb v.state 0 ≡ false → is_identifier (kmcid_of v) ≡ true
  unfolding is_slot_sound is_filled_slot is_zero_slot
  sound_name o =
      let w = rw o at h in
      and_first (is_identifier (kmcid_of v)) _ (and_second (leb v.state 3) _ (and_second (leb 1 v.state) _ w))

  -- moved to another state
  pub moved_reads : (a : SlotState) → eqb (state_number a) 0 ≡ false → eqb v.state 0 ≡ false → slot_is (moved_slot a v) ≡ used (kmcid_of v) (state_in (state_number a))
  unfolding slot_is is_zero_slot filled_slot
  moved_reads a o n = rw (o, trimmed_padded 40 v.kmcid (identifier_short (kmcid_of v) (sound_name n))) refl

  -- reset
  pub reset_reads : slot_is (reset_slot v) ≡ stopped (slot_is v)
  unfolding reset_slot stopped
  reset_reads = go (has_state Pending v) (has_state Loading v) refl refl
    where
      moved : eqb v.state 0 ≡ false → slot_is (moved_slot Idle v) ≡ stopped (slot_is v)
      moved n = moved_reads Idle refl n ∙ sym (ap stopped (used_reads v n))

      go : (p l : Bool) → has_state Pending v ≡ p → has_state Loading v ≡ l → slot_is (cond (p || l) (moved_slot Idle v) v) ≡ stopped (slot_is v)
      go true l e f = moved (let z = eqb-true v.state 1 e in rw z refl)
      go false true e f = moved (let z = eqb-true v.state 2 f in rw z refl)
      go false false e f = idle_stays v e f

-- a row that is made for a name
pub filled_reads : (a : SlotState) (s f t : List ℕ) → eqb (state_number a) 0 ≡ false → is_identifier s ≡ true → slot_is (filled_slot a s f t) ≡ used s (state_in (state_number a))
unfolding slot_is is_zero_slot filled_slot
filled_reads a s f t o e =
    let z : trimmed s ≡ s = trimmed_all s (identifier_plain s e) in
    let n : length (trimmed s) ≤ 40 = rw z (identifier_short s e) in
    rw (o, trimmed_padded 40 s n, z) refl

-- REGISTERS
pub vacant_reads : (v : RegisterRow) → is_vacant v ≡ true → register_is v ≡ vacant
unfolding register_is
vacant_reads v e = rw e refl

pub filled_key : (v : RegisterRow) → is_vacant v ≡ false → register_is v ≡ key (attribute_of SGC v) (attribute_of KRN v) (attribute_of KSL v) v.card (record { is_open = is_open v })
unfolding register_is
filled_key v e = rw e refl

pub free_vacant : is_vacant free_register ≡ true
unfolding is_vacant free_register are_all
free_vacant = refl

pub free_register_sound : is_register_sound free_register ≡ true
unfolding is_register_sound
free_register_sound = rw free_vacant refl

pub free_register_reads : register_is free_register ≡ vacant
free_register_reads = vacant_reads free_register free_vacant

pub register_row_lem : (registers : List RegisterRow) (i : ℕ) → get_or (map register_is registers) i vacant ≡ register_is (get_or registers i free_register)
register_row_lem registers i = rw free_register_reads at (get_or-map register_is registers i free_register)

pub key_reads : (g k : List ℕ) (v : RegisterRow) → is_key_of g k v ≡ true → register_is v ≡ key g k (attribute_of KSL v) v.card (record { is_open = is_open v })
unfolding is_key_of
key_reads g k v e =
    let n : is_vacant v ≡ false = no (is_vacant v) (holds (not (is_vacant v)) (and_first (not (is_vacant v)) _ e)) in
    let b = and_second (not (is_vacant v)) _ e in
    let p : attribute_of SGC v ≡ g = same_equal _ g (and_first (same_bytes (attribute_of SGC v) g) _ b) in
    let q : attribute_of KRN v ≡ k = same_equal _ k (and_second (same_bytes (attribute_of SGC v) g) _ b) in
    let w = filled_key v n in
    cc

pub reads_key : (g k s c : List ℕ) (q : Carried) (v : RegisterRow) → register_is v ≡ key g k s c q → is_key_of g k v ≡ true
unfolding is_key_of register_is
reads_key g k s c q v e = go (is_vacant v) e
  where
    go : (b : Bool) → cond b vacant (key (attribute_of SGC v) (attribute_of KRN v) (attribute_of KSL v) v.card (record { is_open = is_open v })) ≡ key g k s c q → (not b && (same_bytes (attribute_of SGC v) g && same_bytes (attribute_of KRN v) k)) ≡ true
    go true w = nope (cc)
    go false w =
        let p : attribute_of SGC v ≡ g = cc in
        let n : attribute_of KRN v ≡ k = cc in
        rw (p, n, same_self g) (same_self k)

pub without_reads : (s : List ℕ) (v : RegisterRow) → register_is (without_slot s v) ≡ drop_key s (register_is v)
unfolding without_slot is_under drop_key
without_reads s v = go (is_vacant v) (same_bytes (attribute_of KSL v) s) refl refl
  where
    go : (b t : Bool) → is_vacant v ≡ b → same_bytes (attribute_of KSL v) s ≡ t → register_is (cond (not b && t) free_register v) ≡ drop_key s (register_is v)
    go true t e f = rw (vacant_reads v e) refl
    go false true e f = rw (filled_key v e, f) free_register_reads
    go false false e f = rw (filled_key v e, f) refl

-- SM?KF and GL?RS close keys
module _ (v : RegisterRow) where
  closed_vacant : is_vacant (closed_row v) ≡ is_vacant v
  unfolding closed_row is_vacant
  closed_vacant = refl

  pub closed_key : is_vacant v ≡ false → register_is (closed_row v) ≡ key (attribute_of SGC v) (attribute_of KRN v) (attribute_of KSL v) v.card (record { is_open = false })
  unfolding closed_row attribute_of is_open
  closed_key e = filled_key (closed_row v) (closed_vacant ∙ e)

  pub closed_any : register_is (closed_row v) ≡ close_any (register_is v)
  unfolding close_any
  closed_any = go (is_vacant v) refl
    where
      go : (b : Bool) → is_vacant v ≡ b → register_is (closed_row v) ≡ close_any (register_is v)
      go true e = rw (vacant_reads v e, vacant_reads (closed_row v) (closed_vacant ∙ e)) refl
      go false e = rw (filled_key v e, closed_key e) refl

  pub closed_under_lem : (s : List ℕ) → register_is (closed_under s v) ≡ close_key s (register_is v)
  unfolding closed_under is_under close_key
  closed_under_lem s = go (is_vacant v) (same_bytes (attribute_of KSL v) s) refl refl
    where
      go : (b t : Bool) → is_vacant v ≡ b → same_bytes (attribute_of KSL v) s ≡ t → register_is (cond (not b && t) (closed_row v) v) ≡ close_key s (register_is v)
      go true t e f = rw (vacant_reads v e) refl
      go false true e f = rw (filled_key v e, f) (closed_key e)
      go false false e f = rw (filled_key v e, f) refl

-- the row that a load fills
module _ (card kcv s : List ℕ) (h : is_incoming card ≡ true) (b : in_form (Hex 6) kcv ≡ true) (c : is_identifier s ≡ true) where
  abbrev stored : List ℕ
  stored = stored_card card (load_values kcv s)

  not_vacant : is_vacant (filled_register stored) ≡ false
  unfolding is_vacant filled_register are_all in_row stored_card table entry_bytes
  not_vacant = refl

  pub loaded_reads : register_is (filled_register stored) ≡ key (group_in card) (revision_in card) s (in_row stored) (record { is_open = true })
  unfolding filled_register attribute_of is_open are_all is_number is_unpadded
  loaded_reads =
      let f = filled_key (filled_register stored) not_vacant in
      let z : Option (List ℕ) → List ℕ = λ o. or_else o [] in
      let p = ap z (sgc_back card h (load_values kcv s) refl b c refl) in
      let q = ap z (krn_back card h (load_values kcv s) refl b c refl) in
      let r = ap z (ksl_back card h (load_values kcv s) refl b c refl) in
      cc
