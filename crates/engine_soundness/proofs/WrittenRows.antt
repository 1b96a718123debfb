-- Each row that the engine writes is sound by itself: what it pads fits its space, and a card as it stores it is a stored card.
use mathlib.Core.Path.{◌≡◌, refl}
use mathlib.Core.Bool.{Bool, true, false, cond, ◌||◌}
use mathlib.Core.List.{List, [], ◌∷◌, ◌++◌}
use Prim.Native.Nat.{ℕ, zero, suc}
use lib.Dec.{eqb, leb}
use lib.ListN.{length, take, drop, replicate}
use lib.Seq.{take_at}
use borrow.Author.Tests.{eqb-true}
use Rattle.byte_strings.specs.Strings.{is_not, run, all_of}
use Rattle.byte_strings.proofs.Flags.{nope, and_first, and_second, or_second}
use Rattle.byte_strings.proofs.StringLaws.{all_append, all_take, all_drop}
use Rattle.text_classes.specs.Classes.{is_of, are_all, is_alphanumeric, is_mark}
use Rattle.text_classes.specs.Identifiers.{is_identifier}
use Rattle.text_classes.specs.declared.Class.TheVariants.{Zero, Hexadecimal}
use Rattle.text_classes.proofs.Identify.{name_short, name_plain}
use Rattle.text_timestamps.specs.Timestamps.{is_timestamp}
use Rattle.text_timestamps.proofs.Plain.{timestamp_length}
use Rattle.text_forms.specs.Forms.{in_form}
use Rattle.text_forms.specs.declared.Form.TheVariants.{Hex}
use Rattle.text_decimals.specs.Decimals.{is_number, is_unpadded}
use Rattle.card_incoming.specs.Incoming.{is_incoming}
use Rattle.card_attributes.specs.Table.{table}
use Rattle.card_entries.specs.Entries.{entry_bytes}
use Rattle.card_stored.specs.Stored.{load_values, stored_card, in_row}
use Rattle.card_laws.proofs.Incoming.{stored_passes}
use Rattle.row_types.specs.Lists.{padded, trimmed}
use Rattle.row_types.specs.Slots.{state_number, is_zero_slot, has_state, kmcid_of, is_filled_slot, is_slot_sound, filled_slot, moved_slot, reset_slot}
use Rattle.row_types.specs.Registers.{is_vacant, is_under, is_register_sound, is_closed, is_open, free_register, filled_register, without_slot, closed_row, closed_under}
use Rattle.row_types.specs.declared.SlotRow.{SlotRow}
use Rattle.row_types.specs.declared.RegisterRow.{RegisterRow}
use Rattle.row_types.specs.declared.SlotState.{SlotState}
use Rattle.row_types.specs.declared.SlotState.TheVariants.{Free, Pending, Loading, Idle}
use Rattle.row_types.proofs.ListLaws.{trimmed_padded, trimmed_all}
use Rattle.engine.specs.Answers.{loaded_card}
use Rattle.engine.proofs.RowWords.{free_register_sound}
use Rattle.engine_soundness.proofs.SoundWords.{has_mark, free_mark}

-- BYTES IN A SPACE. What fills it is as it was
pub padded_whole : (n : ℕ) (s : List ℕ) → length s ≡ n → padded n s ≡ s
unfolding padded
padded_whole n s e = take_at s (replicate n 0) n e

-- from the first zero on only zeros
abbrev ends_in_zeros : List ℕ → Bool
ends_in_zeros s = all_of (is_of Zero) (drop (run (is_not 0) s) s)

zeros : (n : ℕ) → all_of (is_of Zero) (replicate n 0) ≡ true
zeros zero = refl
zeros (suc n) = zeros n

zeros_end : (s : List ℕ) → all_of (is_of Zero) s ≡ true → ends_in_zeros s ≡ true
zeros_end s e = all_drop (is_of Zero) (run (is_not 0) s) s e

plain_end : (s : List ℕ) → all_of (is_not 0) s ≡ true → ends_in_zeros s ≡ true
plain_end [] e = refl
plain_end (b ∷ bs) e = rw (and_first (is_not 0 b) (all_of (is_not 0) bs) e) (plain_end bs (and_second (is_not 0 b) (all_of (is_not 0) bs) e))

ends_take : (n j : ℕ) (s : List ℕ) → ends_in_zeros s ≡ true → ends_in_zeros (take n (s ++ replicate j 0)) ≡ true
ends_take n j [] e = zeros_end (take n (replicate j 0)) (all_take (is_of Zero) n (replicate j 0) (zeros j))
ends_take zero j (b ∷ bs) e = refl
ends_take (suc n) j (b ∷ bs) e = go (is_not 0 b) e (ends_take n j bs)
  where
    go : (t : Bool) → all_of (is_of Zero) (drop (cond t (suc (run (is_not 0) bs)) 0) (b ∷ bs)) ≡ true → (ends_in_zeros bs ≡ true → ends_in_zeros (take n (bs ++ replicate j 0)) ≡ true)
        → all_of (is_of Zero) (drop (cond t (suc (run (is_not 0) (take n (bs ++ replicate j 0)))) 0) (b ∷ take n (bs ++ replicate j 0))) ≡ true
    go true w tail = tail w
    go false w tail = all_take (is_of Zero) (suc n) ((b ∷ bs) ++ replicate j 0) (all_append (is_of Zero) (b ∷ bs) (replicate j 0) w (zeros j))

ends_padded : (n : ℕ) (s : List ℕ) → ends_in_zeros s ≡ true → ends_in_zeros (padded n s) ≡ true
unfolding padded
ends_padded n s e = ends_take n n s e

-- SLOTS. A state that is not free is one of the other three
state_range : (a : SlotState) → eqb (state_number a) 0 ≡ false → (leb 1 (state_number a) ≡ true) × (leb (state_number a) 3 ≡ true)
state_range Free e = nope (cc)
state_range Pending e = (refl, refl)
state_range Loading e = (refl, refl)
state_range Idle e = (refl, refl)

-- a row in such a state, with fields in form
filled_sound : (a : SlotState) (k f t : List ℕ) → eqb (state_number a) 0 ≡ false → is_identifier (trimmed k) ≡ true → ends_in_zeros k ≡ true → in_form (Hex 16) f ≡ true
    → cond (eqb (state_number a) 1) (is_timestamp (padded 16 t)) (are_all Zero (padded 16 t)) ≡ true → is_slot_sound (filled_slot a k f t) ≡ true
unfolding is_slot_sound is_zero_slot is_filled_slot filled_slot are_all
filled_sound a k f t o i z h e =
    let r = state_range a o in
    let w : padded 16 f ≡ f = padded_whole 16 f (eqb-true (length f) 16 (and_first (eqb (length f) 16) (all_of (is_of Hexadecimal) f) h)) in
    rw (o, r.0, r.1, trimmed_padded 40 k (name_short (trimmed k) i), i, ends_padded 40 k z, w, h) e

-- SM?KC: PENDING, with the clock as TVP
pub opened_sound : (s f t : List ℕ) → is_identifier s ≡ true → in_form (Hex 16) f ≡ true → is_timestamp t ≡ true → is_slot_sound (filled_slot Pending s f t) ≡ true
unfolding is_alphanumeric is_mark
opened_sound s f t i h e =
    let p = name_plain s i 0 refl in
    filled_sound Pending s f t refl (rw (trimmed_all s p) i) (plain_end s p) h (rw (padded_whole 16 t (timestamp_length t e)) e)

-- a sound row that is not free
module _ (v : SlotRow) (h : is_slot_sound v ≡ true) (o : eqb v.state 0 ≡ false) where
  is_filled_lem : is_filled_slot v ≡ true
  unfolding is_slot_sound is_zero_slot
  is_filled_lem = and_second (leb v.state 3) _ (and_second (leb 1 v.state) _ (rw o at h))

  -- SM?KR, SM?KF: in another state, which has no TVP
  pub moved_sound : (a : SlotState) → eqb (state_number a) 0 ≡ false → eqb (state_number a) 1 ≡ false → is_slot_sound (moved_slot a v) ≡ true
  unfolding is_filled_slot are_all padded
  moved_sound a n p =
      let e = is_filled_lem in
      let e1 = and_second (is_identifier (kmcid_of v)) _ e in
      let e2 = and_second (ends_in_zeros v.kmcid) _ e1 in
      filled_sound a v.kmcid v.fingerprint [] n (and_first (is_identifier (kmcid_of v)) _ e) (and_first (ends_in_zeros v.kmcid) _ e1) (and_first (in_form (Hex 16) v.fingerprint) _ e2) (rw p refl)

-- GL?RS
pub reset_sound : (v : SlotRow) → is_slot_sound v ≡ true → is_slot_sound (reset_slot v) ≡ true
unfolding reset_slot
reset_sound v h = go (has_state Pending v) (has_state Loading v) refl refl
  where
    moved : eqb v.state 0 ≡ false → is_slot_sound (moved_slot Idle v) ≡ true
    moved o = moved_sound v h o Idle refl refl

    go : (p l : Bool) → has_state Pending v ≡ p → has_state Loading v ≡ l → is_slot_sound (cond (p || l) (moved_slot Idle v) v) ≡ true
    go true l e f = moved (let z = eqb-true v.state 1 e in rw z refl)
    go false true e f = moved (let z = eqb-true v.state 2 f in rw z refl)
    go false false e f = h

-- REGISTERS
-- SM?KX
pub without_sound : (s : List ℕ) (r : RegisterRow) → is_register_sound r ≡ true → is_register_sound (without_slot s r) ≡ true
unfolding without_slot
without_sound s r h = go (is_under s r)
  where
    go : (b : Bool) → is_register_sound (cond b free_register r) ≡ true
    go true = free_register_sound
    go false = h

-- GL?RS and SM?KF close a key, and leave its card
pub closed_sound : (r : RegisterRow) → is_register_sound r ≡ true → is_register_sound (closed_row r) ≡ true
unfolding is_register_sound closed_row is_vacant
closed_sound r h = h

pub under_sound : (s : List ℕ) (r : RegisterRow) → is_register_sound r ≡ true → is_register_sound (closed_under s r) ≡ true
unfolding closed_under
under_sound s r h = go (is_under s r)
  where
    go : (b : Bool) → is_register_sound (cond b (closed_row r) r) ≡ true
    go true = closed_sound r h
    go false = h

-- SM?KL
pub loaded_sound : (card check s : List ℕ) → is_incoming card ≡ true → in_form (Hex 6) check ≡ true → is_identifier s ≡ true → is_register_sound (filled_register (loaded_card card check s)) ≡ true
unfolding is_register_sound filled_register loaded_card is_number is_unpadded are_all
loaded_sound card check s c k n =
    or_second (is_vacant (filled_register (loaded_card card check s))) _ (stored_passes card c (load_values check s) refl k n refl)

-- THE MARKS that they leave
pub closed_mark_lem : (r : RegisterRow) → has_mark r ≡ true → has_mark (closed_row r) ≡ true
unfolding has_mark is_closed closed_row
closed_mark_lem r h = refl

pub under_mark : (s : List ℕ) (r : RegisterRow) → has_mark r ≡ true → has_mark (closed_under s r) ≡ true
unfolding closed_under
under_mark s r h = go (is_under s r)
  where
    go : (b : Bool) → has_mark (cond b (closed_row r) r) ≡ true
    go true = closed_mark_lem r h
    go false = h

pub without_mark : (s : List ℕ) (r : RegisterRow) → has_mark r ≡ true → has_mark (without_slot s r) ≡ true
unfolding without_slot
without_mark s r h = go (is_under s r)
  where
    go : (b : Bool) → has_mark (cond b free_register r) ≡ true
    go true = free_mark
    go false = h

pub loaded_mark : (card check s : List ℕ) → has_mark (filled_register (loaded_card card check s)) ≡ true
unfolding has_mark is_closed is_open is_vacant filled_register are_all in_row loaded_card stored_card table entry_bytes
loaded_mark card check s = refl
