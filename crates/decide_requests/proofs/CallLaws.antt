-- The first seven questions in turn, which are the same for every command, each with what the code knows where it answers as premises.
use mathlib.Core.Path.{◌≡◌, refl, sym, ap, ◌∙◌}
use mathlib.Core.Bool.{Bool, true, false, not}
use mathlib.Core.List.{List}
use mathlib.Core.Option.{none}
use Prim.Native.Nat.{ℕ}
use lib.ListN.{take}
use borrow.Author.Tests.{not-true, not-false}
use Rattle.field_values.specs.Values.{values_of}
use Rattle.message_frames.specs.Frames.{is_whole, is_checked, header_of, payload_of}
use Rattle.message_commands.specs.Commands.{command_of}
use Rattle.message_commands.specs.declared.Command.{Command}
use Rattle.row_types.specs.Sound.{are_sound}
use Rattle.row_types.specs.Supplements.{is_well_formed}
use Rattle.row_types.specs.declared.Supplement.{Supplement}
use Rattle.row_types.specs.declared.SlotRow.{SlotRow}
use Rattle.row_types.specs.declared.RegisterRow.{RegisterRow}
use Rattle.row_index.specs.Found.{AreKeys}
use Rattle.row_index.specs.Lent.{tables_with}
use Rattle.decide_counts.specs.First.{first_refusal}
use Rattle.decide_counts.proofs.CountLaws.{counts_no, counts_yes, room_no, room_yes}
use Rattle.engine.specs.Requests.{is_one_of_ten}
use Rattle.engine.specs.Questions.{Call, are_counts, table_questions, message_questions, first_no}
use Rattle.engine.specs.Calls.{call_in}
use Rattle.engine.specs.Decisions.{decision_for, decision_of}
use Rattle.engine.specs.declared.Refusal.TheVariants.{RowCounts, ShortBuffer, UnsoundRows, BadSupplement, BadFrame, BadChecksum, UnknownHeader}
use Rattle.decide_parts.specs.Parts.{IsDecided}
use Rattle.decide_parts.specs.declared.Decided.{Decided}
use Rattle.engine.specs.declared.Decision.TheVariants.{Refuse}
use Rattle.engine.proofs.DecisionLaws.{tables_refused, message_refused, command_decides}

-- is_one_of_ten
pub header_arm : (c o : Command) → c ≡ o → (b : Bool) → b ≡ is_one_of_ten o → b ≡ is_one_of_ten c
header_arm c o e b p = rw e p

pub is_one_of_ten_lem : (c : Command) (b : Bool) → b ≡ is_one_of_ten c → not b ≡ false → is_one_of_ten c ≡ true
is_one_of_ten_lem c b p o = sym p ∙ not-false b o

-- decide: R are places of registers of which question 3 was answered
module _ (slots : List SlotRow) (n m : ℕ) (x : Supplement) (q : List ℕ) (room : ℕ) (R : List RegisterRow) (first : ℕ) (p : first ≡ first_refusal n m room) where
  abbrev call : Call
  call = call_in (tables_with slots n R m) x q room

  pub counts_refused : first ≡ 1 → Refuse RowCounts ≡ decision_of call
  counts_refused o = tables_refused call RowCounts (rw (counts_no n m room first p o))

  module _ (o : first ≡ 1 → ⊥) where
    counted : are_counts n m ≡ true
    counted = counts_yes n m room first p o

    pub room_refused : first ≡ 2 → Refuse ShortBuffer ≡ decision_of call
    room_refused h = tables_refused call ShortBuffer (rw (counted, room_no n m room first p o h))

    module _ (h : first ≡ 2 → ⊥) (sound : Bool) (r : sound ≡ are_sound (take n slots) (take m R)) where
      pub rows_refused : not sound ≡ true → Refuse UnsoundRows ≡ decision_of call
      rows_refused i = tables_refused call UnsoundRows (rw (counted, room_yes n m room first p o h, ← r, not-true sound i))

      module _ (i : not sound ≡ false) (c : Bool) (s : c ≡ is_well_formed x) where
        pub supplement_refused : not c ≡ true → Refuse BadSupplement ≡ decision_of call
        supplement_refused j = tables_refused call BadSupplement (rw (counted, room_yes n m room first p o h, ← r, not-false sound i, ← s, not-true c j))

        module _ (j : not c ≡ false) (d : Bool) (u : d ≡ is_whole q) where
          tables_right : first_no (table_questions call) ≡ none
          tables_right = rw (counted, room_yes n m room first p o h, ← r, not-false sound i, ← s, not-false c j)

          pub frame_refused : not d ≡ true → Refuse BadFrame ≡ decision_of call
          frame_refused k = message_refused call tables_right BadFrame (rw (← u, not-true d k))

          module _ (k : not d ≡ false) (e : Bool) (v : e ≡ is_checked q) where
            pub checksum_refused : not e ≡ true → Refuse BadChecksum ≡ decision_of call
            checksum_refused l = message_refused call tables_right BadChecksum (rw (← u, not-false d k, ← v, not-true e l))

            module _ (l : not e ≡ false) (head : List ℕ) (w : head ≡ header_of q) (command : Command) (y : command ≡ command_of head) (f : Bool) (z : f ≡ is_one_of_ten command) where
              its_command : command_of (header_of q) ≡ command
              its_command = ap command_of (sym w) ∙ sym y

              pub header_refused : not f ≡ true → Refuse UnknownHeader ≡ decision_of call
              header_refused g = message_refused call tables_right UnknownHeader (rw (← u, not-false d k, ← v, not-false e l, its_command, ← z, not-true f g))

              pub command_decided : not f ≡ false → (payload : List ℕ) → payload ≡ payload_of q → (keys : List ℕ) (g : Decided)
                  → ((b : Call) → b.slots ≡ take n slots → AreKeys keys b.registers → b.supplement ≡ x → IsDecided g (decision_for b command (values_of payload)) payload)
                  → AreKeys keys (take m R) → IsDecided g (decision_of call) (payload_of q)
              command_decided i' payload same keys g all found =
                  let t : first_no (message_questions q) ≡ none = rw (← u, not-false d k, ← v, not-false e l, its_command, ← z, not-false f i') in
                  let is = all call refl found refl in
                  record { decision_is = command_decides call tables_right t g.decision (rw (its_command, ← same) is.decision_is); parts_stand = rw (← same) is.parts_stand }
