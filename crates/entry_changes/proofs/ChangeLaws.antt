-- Each case of a decision, with what the code knows where it answers as premises.
use mathlib.Core.Path.{◌≡◌, refl, sym, ap, ◌∙◌}
use mathlib.Core.List.{List, [], ◌∷◌}
use Prim.Native.Nat.{ℕ, zero, suc, ◌+◌, ◌*◌, ◌^◌, ◌≤◌, ◌<◌}
use native.Mathlib.Omega.{arith}
use types.Run.{OneOf, miss}
use denote.Enum.Declared.{tag_of}
use lib.ListN.{length, get_or, set, take, replicate}
use lib.Seq.{length-take-le}
use Rattle.field_values.specs.Values.{Value, values_of}
use Rattle.byte_bounds.specs.declared.Bounds.{Bounds}
use Rattle.card_incoming.specs.Incoming.{AreValues}
use Rattle.card_stored.specs.Stored.{load_values, stored_card, in_row}
use Rattle.row_types.specs.Lists.{mapped}
use Rattle.row_types.specs.Slots.{free_slot, filled_slot, moved_slot, reset_slot}
use Rattle.row_types.specs.Registers.{free_register, filled_register}
use Rattle.row_types.specs.declared.SlotRow.{SlotRow}
use Rattle.row_types.specs.declared.RegisterRow.{RegisterRow}
use Rattle.row_types.specs.declared.Supplement.{Supplement}
use Rattle.row_types.specs.declared.SlotState.TheVariants.{Pending, Loading, Idle}
use Rattle.row_types.proofs.PlaceCounts.{get_d_any}
use Rattle.engine.specs.Requests.{first_text}
use Rattle.engine.specs.Answers.{loaded_card}
use Rattle.engine.specs.declared.Decision.{Decision}
use Rattle.engine.specs.declared.Decision.TheVariants.{Refuse, Reset, Start, Open, Load, Close, DeleteSlot, DeleteKey, GetCard, ListSlots, QuerySlot}
use Rattle.engine.specs.contracts.Decision.{the_type}
use Rattle.decide_parts.specs.Parts.{pending_row, card_of, StartParts, LoadParts}
use Rattle.decide_parts.specs.declared.Parts.{Parts}
use Rattle.row_index.specs.Lent.{marked_row, marked_rows}
use Rattle.register_tables.specs.Freed.{freed, closed, closing}
use Rattle.register_tables.proofs.FreedLaws.{freed_rows, closed_rows, reset_rows}
use Rattle.entry_changes.specs.Changes.{slots_after, registers_after, CanChangeSlots, CanSweep, CanChangeRegisters}

-- pending_row
pub row_made : (u u' v v' clock : List ℕ) (r : SlotRow) → u ≡ u' → v ≡ v' → r ≡ filled_slot Pending u v clock → r ≡ filled_slot Pending u' v' clock
row_made u u' v v' clock r e f p = rw (← e, ← f) p

-- loaded_card: card and slot are those of the request
module _ (card u check slot v : List ℕ) (e : card ≡ u) (f : slot ≡ v) where
  same_card : stored_card card (load_values check slot) ≡ loaded_card u check v
  unfolding loaded_card
  same_card = rw (e, f) refl

  pub card_room : length (loaded_card u check v) ≤ 256 → length (stored_card card (load_values check slot)) ≤ 256
  card_room h = rw same_card h

  pub card_values : (values : List Bounds) → AreValues values u → AreValues values card
  card_values values h = rw e h

  pub card_made : (r : List ℕ) → r ≡ in_row (stored_card card (load_values check slot)) → r ≡ in_row (loaded_card u check v)
  card_made r p = p ∙ ap in_row same_card

-- a slot row takes 73 bytes, a card 256
slot_fits : (k : ℕ) → k < 8 → k * 73 < 2 ^ 64
slot_fits k h = omega arith

register_fits : (k : ℕ) → k < 32 → k * 256 < 2 ^ 64
register_fits k h = omega arith

-- change_slots
module _ (d : Decision) (p : Parts) (n : ℕ) (s : List ℕ) (can : CanChangeSlots d p n s) where
  pub reset_can : d ≡ Reset → n ≤ 8
  reset_can e = rw e at can

  module _ (k : ℕ) where
    module _ (e : d ≡ Start k) where
      pub start_can : k < 8
      start_can = (rw e at can).0

      pub start_fits : k * 73 < 2 ^ 64
      start_fits = slot_fits k start_can

      pub start_parts : StartParts p s
      start_parts = (rw e at can).1

    module _ (e : d ≡ Open k) where
      pub open_can : k < 8
      open_can = rw e at can

      pub open_fits : k * 73 < 2 ^ 64
      open_fits = slot_fits k open_can

    module _ (e : d ≡ Close k) where
      pub close_can : k < 8
      close_can = rw e at can

      pub close_fits : k * 73 < 2 ^ 64
      close_fits = slot_fits k close_can

    module _ (e : d ≡ DeleteSlot k) where
      pub delete_slot_can : k < 8
      delete_slot_can = rw e at can

      pub delete_slot_fits : k * 73 < 2 ^ 64
      delete_slot_fits = slot_fits k delete_slot_can

-- the decisions that change no slot, and those that change no register
abbrev slotless : List ℕ
slotless = 0 ∷ 4 ∷ 7 ∷ 8 ∷ 9 ∷ 10 ∷ []

abbrev registerless : List ℕ
registerless = 0 ∷ 2 ∷ 3 ∷ 8 ∷ 9 ∷ 10 ∷ []

pub slots_kept : (d : Decision) (n : ℕ) (l : List SlotRow) (x : Supplement) (vs : List Value) → OneOf slotless (tag_of the_type d) → l ≡ slots_after d n l x vs
slots_kept (Refuse r) n l x vs o = refl
slots_kept Reset n l x vs o = absurd (miss slotless 1 tt o)
slots_kept (Start k) n l x vs o = absurd (miss slotless 2 tt o)
slots_kept (Open k) n l x vs o = absurd (miss slotless 3 tt o)
slots_kept (Load k) n l x vs o = refl
slots_kept (Close k) n l x vs o = absurd (miss slotless 5 tt o)
slots_kept (DeleteSlot k) n l x vs o = absurd (miss slotless 6 tt o)
slots_kept (DeleteKey k) n l x vs o = refl
slots_kept (GetCard k) n l x vs o = refl
slots_kept ListSlots n l x vs o = refl
slots_kept (QuerySlot k) n l x vs o = refl

pub registers_kept : (d : Decision) (m : ℕ) (l : List RegisterRow) (x : Supplement) (vs : List Value) → OneOf registerless (tag_of the_type d) → l ≡ registers_after d m l x vs
registers_kept (Refuse r) m l x vs o = refl
registers_kept Reset m l x vs o = absurd (miss registerless 1 tt o)
registers_kept (Start k) m l x vs o = refl
registers_kept (Open k) m l x vs o = refl
registers_kept (Load k) m l x vs o = absurd (miss registerless 4 tt o)
registers_kept (Close k) m l x vs o = absurd (miss registerless 5 tt o)
registers_kept (DeleteSlot k) m l x vs o = absurd (miss registerless 6 tt o)
registers_kept (DeleteKey k) m l x vs o = absurd (miss registerless 7 tt o)
registers_kept (GetCard k) m l x vs o = refl
registers_kept ListSlots m l x vs o = refl
registers_kept (QuerySlot k) m l x vs o = refl

module _ (d : Decision) (n : ℕ) (l : List SlotRow) (x : Supplement) (vs : List Value) where
  pub reset_made : d ≡ Reset → (u : List SlotRow) → u ≡ mapped n reset_slot l → u ≡ slots_after d n l x vs
  reset_made e u p = rw e p

  module _ (k : ℕ) (r : SlotRow) where
    pub start_made : d ≡ Start k → r ≡ pending_row x.clock vs → set l k r ≡ slots_after d n l x vs
    start_made e p = rw (e, p) refl

    pub delete_slot_made : d ≡ DeleteSlot k → r ≡ free_slot → set l k r ≡ slots_after d n l x vs
    delete_slot_made e p = rw (e, p) refl

    module _ (z : length l ≡ 8) (y : SlotRow) where
      pub open_made : d ≡ Open k → k < 8 → r ≡ moved_slot Loading (get_or l k y) → set l k r ≡ slots_after d n l x vs
      open_made e h p = rw (e, p, get_d_any l k y free_slot (omega arith)) refl

      pub close_made : d ≡ Close k → k < 8 → r ≡ moved_slot Idle (get_or l k y) → set l k r ≡ slots_after d n l x vs
      close_made e h p = rw (e, p, get_d_any l k y free_slot (omega arith)) refl

-- a card and a mark put at one place of their lists make one row
marked_set : (l : List (List ℕ)) (ms : List ℕ) (k : ℕ) (c : List ℕ) (a : ℕ) → length ms ≡ length l → marked_rows (set l k c) (set ms k a) ≡ set (marked_rows l ms) k (marked_row c a)
unfolding marked_rows
marked_set [] ms k c a z = refl
marked_set (x ∷ xs) [] k c a z = absurd (omega arith)
marked_set (x ∷ xs) (b ∷ bs) zero c a z = refl
marked_set (x ∷ xs) (b ∷ bs) (suc k) c a z = ap (λ (r : List RegisterRow). marked_row x b ∷ r) (marked_set xs bs k c a (omega arith))

-- change_registers: l are the cards, ms the marks
module _ (d : Decision) (m : ℕ) (owners : List ℕ) (l : List (List ℕ)) (ms : List ℕ) (x : Supplement) (p : Parts) (s : List ℕ) (can : CanChangeRegisters d p m owners (marked_rows l ms) x s) where
  abbrev vs : List Value
  vs = values_of s

  pub all_can : d ≡ Reset → m ≤ 32
  all_can e = rw e at can

  module _ (k : ℕ) where
    pub load_can : d ≡ Load k → k < 32
    load_can e = (rw e at can).0

    pub load_fits : d ≡ Load k → k * 256 < 2 ^ 64
    load_fits e = register_fits k (load_can e)

    pub load_parts : d ≡ Load k → LoadParts p s
    load_parts e = (rw e at can).1.0

    pub load_length : d ≡ Load k → length (card_of x vs) ≤ 256
    load_length e = (rw e at can).1.1

    pub delete_key_can : d ≡ DeleteKey k → k < 32
    delete_key_can e = rw e at can

    pub delete_key_fits : d ≡ DeleteKey k → k * 256 < 2 ^ 64
    delete_key_fits e = register_fits k (delete_key_can e)

    -- SM?KF and SM?KX
    close_sweep : d ≡ Close k → CanSweep k m owners (marked_rows l ms) s
    close_sweep e = rw e at can

    delete_sweep : d ≡ DeleteSlot k → CanSweep k m owners (marked_rows l ms) s
    delete_sweep e = rw e at can

    sum_fits : CanSweep k m owners (marked_rows l ms) s → (j : ℕ) → j ≤ 8 → k + j < 2 ^ 64
    sum_fits c j h = let i = c.0 in omega (arith, i, h)

    pub close_sum : d ≡ Close k → (j : ℕ) → j ≤ 8 → k + j < 2 ^ 64
    close_sum e = sum_fits (close_sweep e)

    pub close_count : d ≡ Close k → m ≤ 32
    close_count e = (close_sweep e).1.0

    pub delete_slot_sum : d ≡ DeleteSlot k → (j : ℕ) → j ≤ 8 → k + j < 2 ^ 64
    delete_slot_sum e = sum_fits (delete_sweep e)

    pub delete_slot_count : d ≡ DeleteSlot k → m ≤ 32
    delete_slot_count e = (delete_sweep e).1.0

    pub delete_slot_cards : d ≡ DeleteSlot k → length l ≡ 32 → m ≤ length l
    delete_slot_cards e z = let h = delete_slot_count e in omega (arith, h, z)

  -- what is left
  module _ (z : length l ≡ 32) (y : length ms ≡ 32) where
    pub reset_left : d ≡ Reset → (a : List ℕ) → a ≡ mapped m closing ms → marked_rows l a ≡ registers_after d m (marked_rows l ms) x vs
    reset_left e a q = rw (e, q) (reset_rows m l ms (y ∙ sym z))

    module _ (k : ℕ) where
      pub load_left : d ≡ Load k → (c : List ℕ) → c ≡ in_row (card_of x vs) → marked_rows (set l k c) (set ms k 1) ≡ registers_after d m (marked_rows l ms) x vs
      unfolding filled_register
      load_left e c q = rw (e, q) (marked_set l ms k (in_row (card_of x vs)) 1 (y ∙ sym z))

      pub delete_key_left : d ≡ DeleteKey k → marked_rows (set l k (replicate 256 0)) (set ms k 0) ≡ registers_after d m (marked_rows l ms) x vs
      unfolding free_register
      delete_key_left e = rw e (marked_set l ms k (replicate 256 0) 0 (y ∙ sym z))

      module _ (t : length owners ≡ 32) (a : List ℕ) (v : a ≡ closed (k + 1) (take m owners) ms) where
        owners_long : m ≤ 32 → length (take m owners) ≡ m
        owners_long h = length-take-le m owners (omega (arith, h, t))

        pub close_left : d ≡ Close k → marked_rows l a ≡ registers_after d m (marked_rows l ms) x vs
        close_left e =
            let c = close_sweep k e in
            rw (e, v) (closed_rows (k + 1) (first_text vs) (take m owners) m l ms c.1.1 (owners_long c.1.0) (y ∙ sym z))

        pub delete_slot_left : d ≡ DeleteSlot k → (u : List (List ℕ)) → u ≡ freed (k + 1) (take m owners) l → marked_rows u a ≡ registers_after d m (marked_rows l ms) x vs
        delete_slot_left e u q =
            let c = delete_sweep k e in
            rw (e, v, q) (freed_rows (k + 1) (first_text vs) (take m owners) m l ms c.1.1 (owners_long c.1.0) (y ∙ sym z))
