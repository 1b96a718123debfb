-- Question 3 in both directions: what makes rows unsound, each fault of document 01's list by itself, and rows that are sound.
use mathlib.Core.Path.{◌≡◌, refl}
use mathlib.Core.Bool.{Bool, true, false, not, ◌&&◌, ◌||◌}
use Prim.Native.Nat.{ℕ}
use mathlib.Core.List.{List}
use borrow.Author.Tests.{eqb-true}
use Rattle.byte_strings.proofs.Flags.{nope, and_first, and_second}
use Rattle.text_classes.specs.Classes.{are_all}
use Rattle.text_classes.specs.declared.Class.TheVariants.{Zero}
use Rattle.card_attributes.specs.Table.{KSL}
use Rattle.row_types.specs.Lists.{every_row, some_row, distinct_rows}
use Rattle.row_types.specs.Slots.{has_state, in_session, is_slot_sound, is_same_slot}
use Rattle.row_types.specs.Registers.{is_vacant, attribute_of, is_register_sound, is_same_key, is_under, is_closed, is_open, free_register, filled_register, without_slot, closed_row, closed_under}
use Rattle.row_types.specs.Sound.{is_owned, is_in_session, is_mark_sound, are_sound}
use Rattle.row_types.specs.declared.SlotRow.{SlotRow}
use Rattle.row_types.specs.declared.RegisterRow.{RegisterRow}
use Rattle.row_types.specs.declared.SlotState.TheVariants.{Idle}

no_first : (a b : Bool) → a ≡ false → (a && b) ≡ false
no_first true b e = nope (cc)
no_first false b e = refl

no_second : (a b : Bool) → b ≡ false → (a && b) ≡ false
no_second true b e = e
no_second false b e = refl

module _ (S : List SlotRow) (R : List RegisterRow) where
  -- a slot row that is not sound by itself
  pub unsound_slot : every_row is_slot_sound S ≡ false → are_sound S R ≡ false
  unfolding are_sound
  unsound_slot e = no_first (every_row is_slot_sound S) _ e

  -- two slots of one identifier
  pub named_twice : distinct_rows is_same_slot S ≡ false → are_sound S R ≡ false
  unfolding are_sound
  named_twice e = no_second (every_row is_slot_sound S) _ (no_first (distinct_rows is_same_slot S) _ e)

  -- a register row that is not sound by itself
  pub unsound_register : every_row is_register_sound R ≡ false → are_sound S R ≡ false
  unfolding are_sound
  unsound_register e = no_second (every_row is_slot_sound S) _ (no_second (distinct_rows is_same_slot S) _ (no_first (every_row is_register_sound R) _ e))

  -- two registers of one key
  pub held_twice : distinct_rows is_same_key R ≡ false → are_sound S R ≡ false
  unfolding are_sound
  held_twice e =
      no_second (every_row is_slot_sound S) _ (no_second (distinct_rows is_same_slot S) _ (no_second (every_row is_register_sound R) _ (no_first (distinct_rows is_same_key R) _ e)))

  -- a key whose slot is not there
  pub unowned : every_row (is_owned S) R ≡ false → are_sound S R ≡ false
  unfolding are_sound
  unowned e =
      no_second (every_row is_slot_sound S) _ (no_second (distinct_rows is_same_slot S) _ (no_second (every_row is_register_sound R) _ (no_second (distinct_rows is_same_key R) _ (no_first (every_row (is_owned S) R) _ e))))

  -- a mark that is not sound
  pub ill_marked : every_row (is_mark_sound S) R ≡ false → are_sound S R ≡ false
  unfolding are_sound
  ill_marked e =
      no_second (every_row is_slot_sound S) _ (no_second (distinct_rows is_same_slot S) _ (no_second (every_row is_register_sound R) _ (no_second (distinct_rows is_same_key R) _ (no_second (every_row (is_owned S) R) _ e))))

  -- rows with none of these faults
  pub faultless : every_row is_slot_sound S ≡ true → distinct_rows is_same_slot S ≡ true → every_row is_register_sound R ≡ true → distinct_rows is_same_key R ≡ true → every_row (is_owned S) R ≡ true → every_row (is_mark_sound S) R ≡ true → are_sound S R ≡ true
  unfolding are_sound
  faultless a b c d e f = rw (a, b, c, d, e, f) refl

  -- and of sound rows each part by itself
  module _ (e : are_sound S R ≡ true) where
    pub slots_sound : every_row is_slot_sound S ≡ true
    unfolding are_sound
    slots_sound = and_first (every_row is_slot_sound S) _ e

    after_slots : (distinct_rows is_same_slot S && (every_row is_register_sound R && (distinct_rows is_same_key R && (every_row (is_owned S) R && every_row (is_mark_sound S) R)))) ≡ true
    unfolding are_sound
    after_slots = and_second (every_row is_slot_sound S) _ e

    pub slots_distinct : distinct_rows is_same_slot S ≡ true
    slots_distinct = and_first (distinct_rows is_same_slot S) _ after_slots

    pub registers_sound : every_row is_register_sound R ≡ true
    registers_sound = and_first (every_row is_register_sound R) _ (and_second (distinct_rows is_same_slot S) _ after_slots)

    after_registers : (distinct_rows is_same_key R && (every_row (is_owned S) R && every_row (is_mark_sound S) R)) ≡ true
    after_registers = and_second (every_row is_register_sound R) _ (and_second (distinct_rows is_same_slot S) _ after_slots)

    pub registers_distinct : distinct_rows is_same_key R ≡ true
    registers_distinct = and_first (distinct_rows is_same_key R) _ after_registers

    pub registers_owned : every_row (is_owned S) R ≡ true
    registers_owned = and_first (every_row (is_owned S) R) _ (and_second (distinct_rows is_same_key R) _ after_registers)

    pub marks_sound : every_row (is_mark_sound S) R ≡ true
    marks_sound = and_second (every_row (is_owned S) R) _ (and_second (distinct_rows is_same_key R) _ after_registers)

-- THE MARK OF ONE ROW, in both directions (document 02, N3)
module _ (S : List SlotRow) (r : RegisterRow) where
  -- closed is sound, whatever the slot's state
  pub closed_sound : is_closed r ≡ true → is_mark_sound S r ≡ true
  unfolding is_mark_sound
  closed_sound e = rw e refl

  -- open is sound beside a key whose slot is PENDING or LOADING
  pub open_sound : is_open r ≡ true → is_vacant r ≡ false → some_row (is_in_session (attribute_of KSL r)) S ≡ true → is_mark_sound S r ≡ true
  unfolding is_mark_sound
  open_sound e f g = rw (e, f, g) (either (is_closed r))
    where
      either : (a : Bool) → (a || true) ≡ true
      either true = refl
      either false = refl

  -- a free row is closed
  pub free_is_closed : is_mark_sound S r ≡ true → is_vacant r ≡ true → is_closed r ≡ true
  unfolding is_mark_sound
  free_is_closed e f = go (is_closed r) (is_open r) (rw f at e)
    where
      go : (a b : Bool) → (a || (b && false)) ≡ true → a ≡ true
      go true b q = refl
      go false true q = nope (cc)
      go false false q = nope (cc)

  -- an open key's slot is PENDING or LOADING
  pub open_in_session : is_mark_sound S r ≡ true → is_closed r ≡ false → (is_open r ≡ true) × (some_row (is_in_session (attribute_of KSL r)) S ≡ true)
  unfolding is_mark_sound
  open_in_session e f = go (is_open r) (not (is_vacant r)) (some_row (is_in_session (attribute_of KSL r)) S) (rw f at e)
    where
      go : (a b c : Bool) → (a && (b && c)) ≡ true → (a ≡ true) × (c ≡ true)
      go true true true q = (refl, refl)
      go true true false q = nope (cc)
      go true false c q = nope (cc)
      go false b c q = nope (cc)

  -- a number that is neither 0 nor 1 is no mark
  pub no_mark : is_closed r ≡ false → is_open r ≡ false → is_mark_sound S r ≡ false
  unfolding is_mark_sound
  no_mark e f = rw (e, f) refl

-- WHAT THE COMMANDS LEAVE (document 02, N3): SM?KL an open key,
pub loaded_open : (card : List ℕ) → is_open (filled_register card) ≡ true
unfolding is_open filled_register
loaded_open card = refl

-- SM?KD and SM?KX a row of zeros, its mark too,
pub freed_zero : (are_all Zero free_register.card ≡ true) × (free_register.mark ≡ 0)
unfolding free_register are_all
freed_zero = (refl, refl)

-- GL?RS the card as it was, closed,
pub reset_closed : (r : RegisterRow) → (is_closed (closed_row r) ≡ true) × ((closed_row r).card ≡ r.card)
unfolding is_closed closed_row
reset_closed r = (refl, refl)

module _ (s : List ℕ) (r : RegisterRow) where
  pub deleted_freed : is_under s r ≡ true → without_slot s r ≡ free_register
  unfolding without_slot
  deleted_freed e = rw e refl

  -- SM?KF a key of its slot closed, and one of another slot as it was
  pub under_closed : is_under s r ≡ true → closed_under s r ≡ closed_row r
  unfolding closed_under
  under_closed e = rw e refl

  pub other_kept : is_under s r ≡ false → closed_under s r ≡ r
  unfolding closed_under
  other_kept e = rw e refl

-- an IDLE slot is in no session, so no open key is sound under one
pub idle_no_session : (v : SlotRow) → has_state Idle v ≡ true → in_session v ≡ false
unfolding in_session
idle_no_session v e = rw (eqb-true v.state 3 e) refl
