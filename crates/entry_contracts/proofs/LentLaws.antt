-- Lent rows of any number are answered as is promised. Questions 1 and 2 refuse before a row is loaded, and every row stays; where they do not, the counts are in range, so that the rows in the tables by value are the lent ones:
-- what is promised over the tables is promised over the rows, where they are stored back, and where a refusal stores none.
use mathlib.Core.Path.{◌≡◌, refl, sym, ap, subst, ◌∙◌}
use mathlib.Core.Bool.{Bool, true, false, not}
use mathlib.Core.List.{List, []}
use mathlib.Core.Option.{some}
use Prim.Native.Nat.{ℕ, ◌≤◌, zero-le}
use native.Mathlib.Omega.{arith}
use lib.Dec.{T, T_not, eqb, leb}
use lib.ListN.{length, take}
use lib.Seq.{take-length}
use Rattle.row_types.specs.Places.{slot_rows, register_rows}
use Rattle.row_types.specs.declared.SlotRow.{SlotRow}
use Rattle.row_types.specs.declared.RegisterRow.{RegisterRow}
use Rattle.row_types.specs.declared.Supplement.{Supplement}
use Rattle.row_types.specs.declared.Tables.{Tables}
use Rattle.row_index.specs.Lent.{tables_with_marks}
use Rattle.row_index.proofs.LentLaws.{rows_again}
use Rattle.decide_counts.specs.First.{first_refusal}
use Rattle.decide_counts.proofs.CountLaws.{slots_few, registers_few}
use Rattle.engine.specs.Refusals.{refusal}
use Rattle.engine.specs.Questions.{Call, are_counts, questions, first_no}
use Rattle.engine.specs.Answers.{response, response_of, buffer_after, Responded, answer_of}
use Rattle.engine.specs.Calls.{call_in}
use Rattle.engine.specs.Outcomes.{outcome_number}
use Rattle.engine.specs.Usable.{is_usable}
use Rattle.engine.specs.Words.{Lent, call_of}
use Rattle.engine.specs.declared.Refusal.{Refusal}
use Rattle.engine.specs.declared.Refusal.TheVariants.{RowCounts, ShortBuffer}
use Rattle.engine.specs.declared.Outcome.{Outcome}
use Rattle.engine.specs.declared.Outcome.TheVariants.{Accepted, Done, Refused}
use Rattle.engine.proofs.AnswerLaws.{IsUnwritten, first_no_decides, refused_keeps, no_reply_exactly}
use Rattle.engine.proofs.Counted.{counted}
use Rattle.row_lending.specs.Tables.{overlay, free_slots, free_registers, slot_table, register_table, card_table, mark_table}
use Rattle.row_lending.proofs.OverlayLaws.{overlay_front, overlay_others}
use Rattle.entry_contracts.specs.Numbers.{state_byte}
use Rattle.entry_contracts.specs.Replies.{Replies}
use Rattle.entry_contracts.specs.declared.Reply.{Reply}
use Rattle.entry_contracts.specs.Lent.{lent_tables}
use Rattle.entry_contracts.specs.Handles.{Run, Handles}

-- 8 and 32 places
slot_places : length free_slots ≡ 8
unfolding free_slots
slot_places = refl

register_places : length free_registers ≡ 32
unfolding free_registers
register_places = refl

-- ys and zs are the lent rows, and `loaded` the tables that they are loaded into, the registers as cards and marks
module _ (ys : List SlotRow) (zs : List RegisterRow) where
  abbrev pub loaded : Tables
  loaded = tables_with_marks (slot_table ys) (length ys) (card_table zs) (mark_table zs) (length zs)

  abbrev rows : Lent
  rows = record { slots = ys; registers = zs }

  -- counts in range: the rows in the tables are the lent ones
  module _ (e : are_counts (length ys) (length zs) ≡ true) where
    room_for_slots : length ys ≤ length free_slots
    room_for_slots = omega (arith, slots_few (length ys) (length zs) e, slot_places)

    room_for_registers : length zs ≤ length free_registers
    room_for_registers = omega (arith, registers_few (length ys) (length zs) e, register_places)

    slots_same : slot_rows loaded ≡ ys
    slots_same = overlay_front ys free_slots room_for_slots

    registers_same : register_rows loaded ≡ zs
    registers_same = ap (take (length zs)) (rows_again (register_table zs)) ∙ overlay_front zs free_registers room_for_registers

  -- a call over them, and a reply r to it with the buffer afterwards
  module _ (x : Supplement) (q b : List ℕ) where
    abbrev lent : Call
    lent = call_of rows (record { request = q; supplement = x; buffer = b })

    abbrev run : Reply → List ℕ → Run
    run r after = record { request = q; supplement = x; before = b; after = after; outcome = r.outcome; state = r.state; size = r.length }

    abbrev f : ℕ
    f = first_refusal (length ys) (length zs) (length b)

    -- questions 1 and 2 refuse before a row is loaded: nothing is written, and every row stays
    abbrev first : Reply
    first = record { outcome = f; state = 255; length = 0 }

    refused_with : (y : Refusal) → first_no (questions lent) ≡ some y → f ≡ (refusal y).number → IsUnwritten (refusal y).number → Handles rows (run first b) rows
    refused_with y e z u =
        let o : (answer_of lent).outcome ≡ Refused y = first_no_decides lent y e in
        let keeps = refused_keeps lent y o in
        let nothing : response (answer_of lent) ≡ [] = ap response_of ((no_reply_exactly lent).1 (subst IsUnwritten (sym (ap outcome_number o)) u)) in
        record {
          outcome_is = z ∙ sym (ap outcome_number o);
          state_is = sym (ap state_byte o);
          written = (sym (ap length nothing), sym (ap (λ (s : List ℕ). buffer_after s b) nothing));
          fits = zero-le;
          slots_are = sym keeps.0;
          registers_are = sym keeps.1;
        }

    pub refused_first : T (not (eqb f 0)) → Handles rows (run first b) rows
    unfolding questions
    refused_first n = go (are_counts (length ys) (length zs)) (leb 1024 (length b)) refl refl
      where
        go : (c d : Bool) → are_counts (length ys) (length zs) ≡ c → leb 1024 (length b) ≡ d → Handles rows (run first b) rows
        go true true e i = absurd (rw (e, i) at n)
        go true false e i = refused_with ShortBuffer (rw (e, i) refl) (rw (e, i) refl) (omega arith, omega arith)
        go false d e i = refused_with RowCounts (rw e refl) (rw e refl) (omega arith, omega arith)

    -- else the counts are in range, and the calls over rows and tables are one
    module _ (n : T (not (not (eqb f 0)))) where
      in_range : are_counts (length ys) (length zs) ≡ true
      in_range = go (are_counts (length ys) (length zs)) refl
        where
          go : (c : Bool) → are_counts (length ys) (length zs) ≡ c → c ≡ true
          go true e = refl
          go false e = absurd (rw e at n)

      abbrev in_tables : Call
      in_tables = call_in loaded x q (length b)

      same_call : in_tables ≡ lent
      same_call = λ j. record { slots = slots_same in_range j; registers = registers_same in_range j; slot_count = length ys; register_count = length zs; room = length b; supplement = x; request = q }

      -- what is promised over the tables is promised over the rows,
      module _ (r : Reply) (after : List ℕ) (left : Tables) (p : Replies loaded (answer_of in_tables) b after r left) where
        outcome_is : r.outcome ≡ outcome_number (answer_of lent).outcome
        outcome_is = p.outcome_is ∙ ap (λ (c : Call). outcome_number (answer_of c).outcome) same_call

        handles : (l : Lent) → l.slots ≡ (answer_of lent).slots → l.registers ≡ (answer_of lent).registers → Handles rows (run r after) l
        handles l u v = record {
          outcome_is = outcome_is;
          state_is = p.state_is ∙ ap (λ (c : Call). state_byte (answer_of c).outcome) same_call;
          written = subst (λ (c : Call). Responded (answer_of c) b r.length after) same_call p.written;
          fits = p.fits;
          slots_are = u;
          registers_are = v;
        }

        -- where the tables are stored,
        pub stored : Handles rows (run r after) (record { slots = overlay left.slots ys; registers = overlay left.registers zs })
        stored = handles _
            (ap (λ (u : Tables). overlay u.slots ys) p.tables_are ∙ overlay_others ys free_slots (room_for_slots in_range) (answer_of in_tables).slots _ ((counted in_tables).0 ∙ ap length (slots_same in_range)) ∙ ap (λ (c : Call). (answer_of c).slots) same_call)
            (ap (λ (u : Tables). overlay u.registers zs) p.tables_are ∙ overlay_others zs free_registers (room_for_registers in_range) (answer_of in_tables).registers _ ((counted in_tables).1 ∙ ap length (registers_same in_range)) ∙ ap (λ (c : Call). (answer_of c).registers) same_call)

        -- and where a refusal stores none
        pub kept : T (not (eqb r.outcome 0)) → Handles rows (run r after) rows
        kept d = go (answer_of lent).outcome refl
          where
            accepted : r.outcome ≡ 0 → ⊥
            accepted z = T_not (eqb r.outcome 0) d (rw z tt)

            go : (o : Outcome) → (answer_of lent).outcome ≡ o → Handles rows (run r after) rows
            go (Accepted a) w = absurd (accepted (outcome_is ∙ ap outcome_number w))
            go Done w = absurd (accepted (outcome_is ∙ ap outcome_number w))
            go (Refused y) w = let k = refused_keeps lent y w in handles rows (sym k.0) (sym k.1)

  -- which key may vend is the same of both
  pub same_usable : (n : ℕ) → is_usable loaded n ≡ is_usable (lent_tables ys zs) n
  unfolding is_usable
  same_usable n = go (are_counts (length ys) (length zs)) refl
    where
      go : (c : Bool) → are_counts (length ys) (length zs) ≡ c → is_usable loaded n ≡ is_usable (lent_tables ys zs) n
      go true e = rw (slots_same e, registers_same e, take-length ys, take-length zs) refl
      go false o = rw o refl
