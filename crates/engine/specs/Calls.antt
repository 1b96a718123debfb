-- The call that tables by value, a supplement, a request and a response buffer make; and the answer to it, with buffer
-- and tables afterwards.
use Rattle.std.specs.Prelude.{ℕ, ◌≤◌, ◌≡◌, List, ◌++◌, length, drop}
use Rattle.std.specs.Borrow.{Bor, MutBor}
use denote.Triple.Both.{Both}
use Rattle.row_types.specs.Places.{slot_rows, register_rows}
use Rattle.row_types.specs.declared.Tables.{Tables}
use Rattle.row_types.specs.declared.Supplement.{Supplement}
use Rattle.engine.specs.Questions.{Call}
use Rattle.engine.specs.Answers.{Answer, Responded, answer_of}
use Rattle.engine.specs.declared.Outcome.{Outcome}

-- of the places that there are, the rows are as many as the caller has; the counts are the caller's own, so that 33
-- rows are 33
abbrev pub call_in : Tables → Supplement → List ℕ → ℕ → Call
call_in t x request room = record {
  slots = slot_rows t;
  registers = register_rows t;
  slot_count = t.slot_count;
  register_count = t.register_count;
  room = room;
  supplement = x;
  request = request;
}

-- the answer to a request and a response buffer as they were handed in
abbrev pub answer_over
    : {X Y : Type 0} → Tables → Supplement → Both (Bor (List ℕ)) X → Both (MutBor (List ℕ)) Y → Answer
answer_over tables supplement request response =
    answer_of (call_in tables supplement request.entry.now (length response.entry.now))

-- the answer's rows, and the places beyond them as they were
abbrev pub tables_after : Tables → Answer → Tables
tables_after t a = record {
  slots = a.slots ++ drop t.slot_count t.slots;
  registers = a.registers ++ drop t.register_count t.registers;
  slot_count = t.slot_count;
  register_count = t.register_count;
}

-- a request over tables is answered: the outcome, the response with its length, and the tables after it
abbrev pub IsAnswered
    : {X : Type 0}
    → Tables
    → Supplement
    → Both (Bor (List ℕ)) X
    → Both (MutBor (List ℕ)) (MutBor (List ℕ))
    → Outcome
    → ℕ
    → Tables
    → Type 0
IsAnswered tables supplement request response outcome size after =
    (outcome ≡ (answer_over tables supplement request response).outcome)
    × (Responded (answer_over tables supplement request response)
    response.entry.now size response.exit.now
    × ((after ≡ tables_after tables (answer_over tables supplement request response))
    × (size ≤ length response.entry.now)))
