-- The rows after a decision (document 01, Slots and registers): n slot rows and m register rows are the caller's, l are
-- the places that hold them, x is the supplement, vs are the request's fields, k is the place of a row, counted from 0.
use Rattle.std.specs.Prelude.{ℕ, ◌+◌, ◌≤◌, ◌<◌, List, length, get_or, set, take}
use Rattle.field_values.specs.Values.{Value, values_of}
use Rattle.row_types.specs.Lists.{mapped}
use Rattle.row_types.specs.Slots.{free_slot, moved_slot, reset_slot}
use Rattle.row_types.specs.Registers.{free_register, filled_register, without_slot, closed_row, closed_under}
use Rattle.row_types.specs.declared.SlotRow.{SlotRow}
use Rattle.row_types.specs.declared.RegisterRow.{RegisterRow}
use Rattle.row_types.specs.declared.Supplement.{Supplement}
use Rattle.row_types.specs.declared.Tables.{Tables}
use Rattle.row_types.specs.declared.SlotState.TheVariants.{Loading, Idle}
use Rattle.row_index.specs.Found.{AreOwnedBy}
use Rattle.engine.specs.Requests.{first_text}
use Rattle.decide_parts.specs.Parts.{pending_row, card_of, StartParts, LoadParts}
use Rattle.decide_parts.specs.declared.Parts.{Parts}
use Rattle.engine.specs.declared.Decision.{Decision}
use Rattle.engine.specs.declared.Decision.TheVariants.{Refuse, Reset, Start, Open, Load, Close}
use Rattle.engine.specs.declared.Decision.TheVariants.{DeleteSlot, DeleteKey, GetCard, ListSlots, QuerySlot}

-- the slot rows: no refusal changes one, nor do SM?KL, SM?KD and the three commands that only read
abbrev pub slots_after : Decision → ℕ → List SlotRow → Supplement → List Value → List SlotRow
slots_after (Refuse r) n l x vs = l
slots_after Reset n l x vs = mapped n reset_slot l  -- GL?RS: PENDING and LOADING become IDLE
slots_after (Start k) n l x vs = set l k (pending_row x.clock vs)  -- SM?KC: PENDING, with the clock as TVP
slots_after (Open k) n l x vs = set l k (moved_slot Loading (get_or l k free_slot))  -- SM?KR: PENDING becomes LOADING
slots_after (Load k) n l x vs = l
-- SM?KF: PENDING or LOADING becomes IDLE
slots_after (Close k) n l x vs = set l k (moved_slot Idle (get_or l k free_slot))
slots_after (DeleteSlot k) n l x vs = set l k free_slot  -- SM?KX: the row becomes free
slots_after (DeleteKey k) n l x vs = l
slots_after (GetCard k) n l x vs = l
slots_after ListSlots n l x vs = l
slots_after (QuerySlot k) n l x vs = l

-- the register rows
abbrev pub registers_after : Decision → ℕ → List RegisterRow → Supplement → List Value → List RegisterRow
registers_after (Refuse r) m l x vs = l
registers_after Reset m l x vs = mapped m closed_row l  -- GL?RS: every key is closed
registers_after (Start k) m l x vs = l
registers_after (Open k) m l x vs = l
-- SM?KL: the key goes to the register, open
registers_after (Load k) m l x vs = set l k (filled_register (card_of x vs))
registers_after (Close k) m l x vs = mapped m (closed_under (first_text vs)) l  -- SM?KF: just those whose KSL is it
-- SM?KX: just those whose KSL is it
registers_after (DeleteSlot k) m l x vs = mapped m (without_slot (first_text vs)) l
registers_after (DeleteKey k) m l x vs = set l k free_register  -- SM?KD: that register becomes free
registers_after (GetCard k) m l x vs = l
registers_after ListSlots m l x vs = l
registers_after (QuerySlot k) m l x vs = l

-- both tables
abbrev pub tables_for : Decision → Tables → Supplement → List Value → Tables
tables_for d t x vs = record {
  slots = slots_after d t.slot_count t.slots x vs;
  registers = registers_after d t.register_count t.registers x vs;
  slot_count = t.slot_count;
  register_count = t.register_count;
}

-- what makes the change of the slot rows fit; it is known of each decision on the payload s
abbrev pub CanChangeSlots : Decision → Parts → ℕ → List ℕ → Type 0
CanChangeSlots (Refuse r) p n s = Unit {0}
CanChangeSlots Reset p n s = n ≤ 8
CanChangeSlots (Start k) p n s = (k < 8) × StartParts p s
CanChangeSlots (Open k) p n s = k < 8
CanChangeSlots (Load k) p n s = Unit {0}
CanChangeSlots (Close k) p n s = k < 8
CanChangeSlots (DeleteSlot k) p n s = k < 8
CanChangeSlots (DeleteKey k) p n s = Unit {0}
CanChangeSlots (GetCard k) p n s = Unit {0}
CanChangeSlots ListSlots p n s = Unit {0}
CanChangeSlots (QuerySlot k) p n s = Unit {0}

-- what makes the sweep over the registers of a slot fit: the owners have the slot's number just at them
abbrev pub CanSweep : ℕ → ℕ → List ℕ → List RegisterRow → List ℕ → Type 0
CanSweep k m owners l s =
    (k < 8)
    × ((m ≤ 32)
    × AreOwnedBy (k + 1) (first_text (values_of s)) (take m owners) (take m l))

-- what makes the change of the register rows fit; it is known of each decision on the payload s
abbrev pub CanChangeRegisters : Decision → Parts → ℕ → List ℕ → List RegisterRow → Supplement → List ℕ → Type 0
CanChangeRegisters (Refuse r) p m owners l x s = Unit {0}
CanChangeRegisters Reset p m owners l x s = m ≤ 32
CanChangeRegisters (Start k) p m owners l x s = Unit {0}
CanChangeRegisters (Open k) p m owners l x s = Unit {0}
CanChangeRegisters (Load k) p m owners l x s =
    (k < 32)
    × (LoadParts p s
    × (length (card_of x (values_of s)) ≤ 256))
CanChangeRegisters (Close k) p m owners l x s = CanSweep k m owners l s
CanChangeRegisters (DeleteSlot k) p m owners l x s = CanSweep k m owners l s
CanChangeRegisters (DeleteKey k) p m owners l x s = k < 32
CanChangeRegisters (GetCard k) p m owners l x s = Unit {0}
CanChangeRegisters ListSlots p m owners l x s = Unit {0}
CanChangeRegisters (QuerySlot k) p m owners l x s = Unit {0}
