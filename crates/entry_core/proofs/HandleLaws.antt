-- From the decision on a call to its answer, as the code puts it together: d is the decision, p the payload.
use mathlib.Core.Path.{◌≡◌, refl, sym, ap, ◌∙◌}
use mathlib.Core.Bool.{true}
use mathlib.Core.List.{List, map}
use Prim.Native.Nat.{ℕ, ◌≤◌}
use lib.ListN.{length, take}
use native.Mathlib.Omega.{arith}
use Rattle.byte_strings.specs.Wrote.{Wrote}
use Rattle.byte_strings.proofs.Writes.{from_start}
use Rattle.field_values.specs.Values.{Value, values_of}
use Rattle.message_frames.specs.Frames.{payload_of}
use Rattle.row_types.specs.declared.Supplement.{Supplement}
use Rattle.row_types.specs.declared.Tables.{Tables}
use Rattle.row_types.specs.declared.SlotRow.{SlotRow}
use Rattle.row_types.specs.declared.RegisterRow.{RegisterRow}
use Rattle.row_types.specs.Registers.{closed_row}
use Rattle.row_index.specs.Lent.{marked_rows, rows_with, tables_with, tables_with_cards, tables_with_marks}
use Rattle.row_index.proofs.LentLaws.{cards_closed}
use Rattle.engine.specs.Questions.{are_counts}
use Rattle.engine.specs.Answers.{response, Responded, answer_of}
use Rattle.engine.specs.Calls.{call_in, tables_after}
use Rattle.engine.specs.Decisions.{decision_of}
use Rattle.decide_parts.specs.Parts.{IsDecided}
use Rattle.decide_parts.specs.declared.Decided.{Decided}
use Rattle.engine.specs.declared.Decision.{Decision}
use Rattle.engine.specs.declared.Decision.TheVariants.{Refuse, Reset, Start, Open, Load, Close, DeleteSlot, DeleteKey, GetCard, ListSlots, QuerySlot}
use Rattle.engine.specs.declared.Outcome.{Outcome}
use Rattle.response_requests.specs.Responding.{outcome_for, response_for, CanRespond}
use Rattle.entry_changes.specs.Changes.{slots_after, registers_after, CanChangeSlots, CanChangeRegisters}
use Rattle.entry_core.specs.Owners.{AreOwners}
use Rattle.entry_core.proofs.DoneBy.{outcome_is, response_is}
use Rattle.entry_core.proofs.RowsAfter.{tables_are}
use Rattle.entry_core.proofs.CardsTold.{can_told, response_told}
use Rattle.entry_core.proofs.Fits.{can_respond, can_slots, can_registers}

-- the commands whose response looks at the register rows change none
same_response : (d : Decision) (slots : List SlotRow) (n : ℕ) (R : List RegisterRow) (m : ℕ) (x : Supplement) (vs : List Value) (q : List ℕ)
    → response_for d (tables_with slots n (registers_after d m R x vs) m) x q ≡ response_for d (tables_with slots n R m) x q
same_response (Refuse r) slots n R m x vs q = refl
same_response Reset slots n R m x vs q = refl
same_response (Start k) slots n R m x vs q = refl
same_response (Open k) slots n R m x vs q = refl
same_response (Load k) slots n R m x vs q = refl
same_response (Close k) slots n R m x vs q = refl
same_response (DeleteSlot k) slots n R m x vs q = refl
same_response (DeleteKey k) slots n R m x vs q = refl
same_response (GetCard k) slots n R m x vs q = refl
same_response ListSlots slots n R m x vs q = refl
same_response (QuerySlot k) slots n R m x vs q = refl

-- the rows with cards and marks are told by their cards
cards_left : (cards : List (List ℕ)) (marks : List ℕ) (l : List RegisterRow) → marked_rows cards marks ≡ l → rows_with cards ≡ map closed_row l
cards_left cards marks l y = cards_closed cards marks ∙ ap (map closed_row) y

-- handle_cards: R are the rows with the lent cards and marks, owners the numbers of their owners; cards and marks are those after it
module _ (slots : List SlotRow) (n : ℕ) (R : List RegisterRow) (m : ℕ) (x : Supplement) (q : List ℕ) (room : ℕ) (g : Decided) (is : IsDecided g (decision_of (call_in (tables_with slots n R m) x q room)) (payload_of q)) where
  abbrev d : Decision
  d = g.decision

  e : d ≡ decision_of (call_in (tables_with slots n R m) x q room)
  e = is.decision_is

  abbrev t : Tables
  t = tables_with slots n R m

  module _ (owners : List ℕ) (owned : are_counts n m ≡ true → AreOwners owners (take n slots) (take m R) m) where
    pub responds : (p : List ℕ) → p ≡ payload_of q → (cards : List (List ℕ)) (marks : List ℕ) → marked_rows cards marks ≡ registers_after d m R x (values_of p) → CanRespond d g.parts (tables_with_cards slots n cards m) owners x q room
    responds p w cards marks y =
        rw (cards_left cards marks _ y, w)
        (can_told slots n (registers_after d m R x (values_of (payload_of q))) m x q d g.parts owners room (can_respond t x q room owners owned d (sym e) g.parts is.parts_stand))

    pub slots_can : (p : List ℕ) → p ≡ payload_of q → CanChangeSlots d g.parts n p
    slots_can p w = rw w (can_slots t x q room owners owned d (sym e) g.parts is.parts_stand)

    pub registers_can : (p : List ℕ) → p ≡ payload_of q → CanChangeRegisters d g.parts m owners R x p
    registers_can p w = rw w (can_registers t x q room owners owned d (sym e) g.parts is.parts_stand)

  pub outcome_right : (o : Outcome) → o ≡ outcome_for d → o ≡ (answer_of (call_in t x q room)).outcome
  outcome_right o w = w ∙ outcome_is (call_in t x q room) d (sym e)

  pub rows_right : (p : List ℕ) → p ≡ payload_of q → (u : List SlotRow) → u ≡ slots_after d n slots x (values_of p) → (cards : List (List ℕ)) (marks : List ℕ) → marked_rows cards marks ≡ registers_after d m R x (values_of p)
      → tables_with_marks u n cards marks m ≡ tables_after t (answer_of (call_in t x q room))
  rows_right p w u v cards marks y = rw (v, y, w) (tables_are t x q room d (sym e))

  pub responded : (p : List ℕ) → p ≡ payload_of q → (cards : List (List ℕ)) (marks : List ℕ) → marked_rows cards marks ≡ registers_after d m R x (values_of p) → (a b : List ℕ) (k : ℕ) → Wrote a 0 (response_for d (tables_with_cards slots n cards m) x q) b k → k ≤ length a
      → Responded (answer_of (call_in t x q room)) a k b
  responded p i cards marks y a b k w h =
      let c : response_for d (tables_with_cards slots n cards m) x q ≡ response_for d (tables_with slots n (registers_after d m R x (values_of p)) m) x q = rw (cards_left cards marks _ y) (response_told slots n (registers_after d m R x (values_of p)) m x q d) in
      let e' : response_for d (tables_with_cards slots n cards m) x q ≡ response (answer_of (call_in t x q room)) = c ∙ same_response d slots n R m x (values_of p) q ∙ response_is t x q room d (sym e) in
      (omega (arith, w.next) ∙ ap length e', rw e' at (from_start w (omega (arith, w.next))))
