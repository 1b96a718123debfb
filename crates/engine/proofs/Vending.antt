-- Which key may vend: one that is marked closed, whatever its slot's state, and no other (document 02, N3).
use mathlib.Core.Path.{◌≡◌, refl}
use mathlib.Core.Bool.{Bool, true, false}
use mathlib.Core.List.{List}
use Prim.Native.Nat.{ℕ}
use borrow.Author.Tests.{eqb-true}
use Rattle.byte_strings.proofs.Flags.{nope, and_first, and_second}
use Rattle.row_types.specs.Registers.{is_closed, is_open}
use Rattle.row_types.specs.Sound.{are_sound}
use Rattle.row_types.specs.Places.{slot_rows, register_rows}
use Rattle.row_types.specs.declared.SlotRow.{SlotRow}
use Rattle.row_types.specs.declared.RegisterRow.{RegisterRow}
use Rattle.row_types.specs.declared.Tables.{Tables}
use Rattle.engine.specs.Questions.{are_counts, register_numbered, is_filled}
use Rattle.engine.specs.Usable.{is_usable}

-- register n of the tables
module _ (t : Tables) (n : ℕ) where
  abbrev pub row_of : RegisterRow
  row_of = register_numbered n (register_rows t)

  -- a key vends where it is marked closed
  pub closed_vends : are_counts t.slot_count t.register_count ≡ true → are_sound (slot_rows t) (register_rows t) ≡ true → is_filled n (register_rows t) ≡ true → is_closed row_of ≡ true → is_usable t n ≡ true
  unfolding is_usable
  closed_vends c s f i = rw (c, s, f, i) refl

  module _ (y : is_usable t n ≡ true) where
    -- a register that is free, 0 or beyond the rows does not
    pub vends_filled : is_filled n (register_rows t) ≡ true
    unfolding is_usable
    vends_filled = and_first (is_filled n (register_rows t)) _ (and_second (are_sound (slot_rows t) (register_rows t)) _ (and_second (are_counts t.slot_count t.register_count) _ y))

    pub vends_closed : is_closed row_of ≡ true
    unfolding is_usable
    vends_closed = and_second (is_filled n (register_rows t)) _ (and_second (are_sound (slot_rows t) (register_rows t)) _ (and_second (are_counts t.slot_count t.register_count) _ y))

  -- nor does an open one
  one_mark : is_open row_of ≡ true → is_closed row_of ≡ true → ◌≡◌ {A = ℕ} 0 1
  unfolding is_open is_closed
  one_mark e i = let z = eqb-true row_of.mark 1 e in nope (let w = rw z at i in cc)

  pub open_stays : is_open row_of ≡ true → is_usable t n ≡ false
  open_stays e = go (is_usable t n) refl
    where
      go : (b : Bool) → is_usable t n ≡ b → b ≡ false
      go true y = nope (one_mark e (vends_closed y))
      go false y = refl

-- whatever the slots' states: the same registers under other slots vend alike, where both are sound
module _ (slots other : List SlotRow) (registers : List RegisterRow) (a b n : ℕ) where
  abbrev under : List SlotRow → Tables
  under s = record { slots = s; registers = registers; slot_count = a; register_count = b }

  pub whatever_state : are_sound (slot_rows (under slots)) (register_rows (under slots)) ≡ true → are_sound (slot_rows (under other)) (register_rows (under other)) ≡ true → is_usable (under slots) n ≡ is_usable (under other) n
  unfolding is_usable
  whatever_state p q = rw (p, q)
