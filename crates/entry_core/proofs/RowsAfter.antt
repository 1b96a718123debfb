-- The tables after a decision are the answer's rows, and the places beyond them as they were.
use mathlib.Core.Path.{◌≡◌, refl, sym, ap, ◌∙◌}
use mathlib.Core.Bool.{true}
use mathlib.Core.List.{List, ◌++◌}
use Prim.Native.Nat.{ℕ, ◌<◌}
use lib.ListN.{length, get_or, set, take, drop, take-append-drop}
use Rattle.field_values.specs.Values.{Value}
use Rattle.message_commands.specs.declared.Command.TheVariants.{KC, KR, KF, KX}
use Rattle.row_types.specs.Slots.{free_slot, moved_slot}
use Rattle.row_types.specs.Registers.{free_register}
use Rattle.row_types.specs.declared.SlotState.{SlotState}
use Rattle.row_types.specs.declared.Supplement.{Supplement}
use Rattle.row_types.specs.declared.Tables.{Tables}
use Rattle.engine.specs.Requests.{fields_in, register_in, record_in, slot_in}
use Rattle.engine.specs.Questions.{Call, place_in, is_place, slot_place, slot_named}
use Rattle.engine.specs.Answers.{Answer, slots_moved, slots_pending, slots_without, refused, answered, effect, answer_of}
use Rattle.engine.specs.Calls.{call_in, tables_after}
use Rattle.engine.specs.Decisions.{decision_of}
use Rattle.engine.specs.declared.Decision.{Decision}
use Rattle.engine.specs.declared.Decision.TheVariants.{Refuse, Reset, Start, Open, Load, Close, DeleteSlot, DeleteKey, GetCard, ListSlots, QuerySlot}
use Rattle.engine.proofs.DecisionLaws.{command_for, refused_answer}
use Rattle.engine.proofs.Places.{filled_below}
use Rattle.entry_changes.specs.Changes.{slots_after, registers_after, tables_for}
use Rattle.entry_core.proofs.Front.{set_front, get_d_front}
use Rattle.entry_core.proofs.DoneBy.{effect_of, load_place, start_place, open_place, close_place, delete_slot_place, delete_key_place}
use Rattle.entry_core.proofs.Asked.{asked_of, slot_below, session_below, card_below}

module _ (t : Tables) (x : Supplement) (q : List ℕ) (room : ℕ) where
  abbrev c : Call
  c = call_in t x q room

  abbrev n : ℕ
  n = t.slot_count

  abbrev m : ℕ
  m = t.register_count

  abbrev vs : List Value
  vs = fields_in q

  -- the answer of a decision that carries its command out
  abbrev done : Decision → Answer
  done d = effect c (command_for d) vs (record_in (command_for d) vs) (slot_in (command_for d) vs)

  -- tables whose rows are these
  same_tables : (a : Answer) (d : Decision) → slots_after d n t.slots x vs ≡ a.slots ++ drop n t.slots → registers_after d m t.registers x vs ≡ a.registers ++ drop m t.registers → tables_for d t x vs ≡ tables_after t a
  same_tables a d p r = λ j. record { slots = p j; registers = r j; slot_count = n; register_count = m }

  slots_kept : t.slots ≡ take n t.slots ++ drop n t.slots
  slots_kept = sym (take-append-drop n t.slots)

  registers_kept : t.registers ≡ take m t.registers ++ drop m t.registers
  registers_kept = sym (take-append-drop m t.registers)

  -- a slot that is moved to another state
  moved : (a : SlotState) (s : List ℕ) (k : ℕ) → place_in c.slots (slot_place s c.slots) ≡ k → is_place (slot_place s c.slots) ≡ true → set t.slots k (moved_slot a (get_or t.slots k free_slot)) ≡ slots_moved a s c.slots ++ drop n t.slots
  unfolding slot_named
  moved a s k w e =
      let h : k < length (take n t.slots) = rw (← w) (slot_below s c.slots e) in
      rw (get_d_front n t.slots k free_slot h, w) (set_front n t.slots k (moved_slot a (get_or (take n t.slots) k free_slot)) h)

  pub tables_are : (d : Decision) → decision_of c ≡ d → tables_for d t x vs ≡ tables_after t (answer_of c)
  unfolding refused answered record_in slot_in slots_pending slots_without
  tables_are (Refuse r) e = rw (refused_answer c r e) (same_tables (refused c r) (Refuse r) slots_kept registers_kept)
  tables_are Reset e = same_tables (done Reset) Reset refl refl ∙ ap (tables_after t) (effect_of c Reset e refl)
  tables_are (Start k) e =
      let w = start_place c k e in
      let h : k < length (take n t.slots) = rw (← w) (session_below (slot_in KC vs) c.slots (asked_of c (Start k) e refl).spot) in
      same_tables (done (Start k)) (Start k) (rw w (set_front n t.slots k _ h)) registers_kept ∙ ap (tables_after t) (effect_of c (Start k) e refl)
  tables_are (Open k) e =
      same_tables (done (Open k)) (Open k) (moved _ (slot_in KR vs) k (open_place c k e) (asked_of c (Open k) e refl).known) registers_kept ∙ ap (tables_after t) (effect_of c (Open k) e refl)
  tables_are (Load k) e =
      let w = load_place c k e in
      let h : k < length (take m t.registers) = rw (← w) (card_below _ c.registers (asked_of c (Load k) e refl).home) in
      same_tables (done (Load k)) (Load k) slots_kept (rw w (set_front m t.registers k _ h)) ∙ ap (tables_after t) (effect_of c (Load k) e refl)
  tables_are (Close k) e =
      same_tables (done (Close k)) (Close k) (moved _ (slot_in KF vs) k (close_place c k e) (asked_of c (Close k) e refl).known) refl ∙ ap (tables_after t) (effect_of c (Close k) e refl)
  tables_are (DeleteSlot k) e =
      let w = delete_slot_place c k e in
      let h : k < length (take n t.slots) = rw (← w) (slot_below (slot_in KX vs) c.slots (asked_of c (DeleteSlot k) e refl).known) in
      same_tables (done (DeleteSlot k)) (DeleteSlot k) (rw w (set_front n t.slots k free_slot h)) refl ∙ ap (tables_after t) (effect_of c (DeleteSlot k) e refl)
  tables_are (DeleteKey k) e =
      let w = delete_key_place c k e in
      let h : k < length (take m t.registers) = rw (← w) (filled_below (register_in vs) c.registers (asked_of c (DeleteKey k) e refl).filled) in
      same_tables (done (DeleteKey k)) (DeleteKey k) slots_kept (rw w (set_front m t.registers k free_register h)) ∙ ap (tables_after t) (effect_of c (DeleteKey k) e refl)
  tables_are (GetCard k) e = same_tables (done (GetCard k)) (GetCard k) slots_kept registers_kept ∙ ap (tables_after t) (effect_of c (GetCard k) e refl)
  tables_are ListSlots e = same_tables (done ListSlots) ListSlots slots_kept registers_kept ∙ ap (tables_after t) (effect_of c ListSlots e refl)
  tables_are (QuerySlot k) e = same_tables (done (QuerySlot k)) (QuerySlot k) slots_kept registers_kept ∙ ap (tables_after t) (effect_of c (QuerySlot k) e refl)
