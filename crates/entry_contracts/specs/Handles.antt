-- What `diminurel_handle` promises of a call, over plain lists: what its caller lends and hands in, and finds
-- afterwards.
use Rattle.std.specs.Prelude.{ℕ, ◌≤◌, ◌≡◌, List, length}
use Rattle.std.specs.Borrow.{Bor, MutBor}
use denote.Triple.Both.{Both}
use Rattle.row_types.specs.declared.SlotRow.{SlotRow}
use Rattle.row_types.specs.declared.RegisterRow.{RegisterRow}
use Rattle.row_types.specs.declared.Supplement.{Supplement}
use Rattle.engine.specs.Answers.{Answer, Responded, answer_of}
use Rattle.engine.specs.Outcomes.{outcome_number}
use Rattle.engine.specs.Words.{Input, Lent, call_of}
use Rattle.entry_contracts.specs.Numbers.{state_byte}
use Rattle.entry_contracts.specs.declared.Reply.{Reply}

-- a call: request, supplement and response buffer as they were handed in; afterwards the buffer, the outcome's number,
-- the number of the slot state that the answer carries (255 where it carries none), and the length of the response
pub record Run : Type 0 where
  pub request : List ℕ
  pub supplement : Supplement
  pub before : List ℕ
  pub after : List ℕ
  pub outcome : ℕ
  pub state : ℕ
  pub size : ℕ

-- what was handed in
abbrev pub input_in : Run → Input
input_in run = record { request = run.request; supplement = run.supplement; buffer = run.before }

-- the answer to it over the rows that are lent: the definition of which demand 3 is proved
abbrev pub answer_in : Lent → Run → Answer
answer_in rows run = answer_of (call_of rows (input_in run))

-- THE PROMISE, with the rows before the call and after it
pub record Handles (rows : Lent) (run : Run) (left : Lent) : Type 0 where
  pub outcome_is : run.outcome ≡ outcome_number (answer_in rows run).outcome
  pub state_is : run.state ≡ state_byte (answer_in rows run).outcome
  pub written : Responded (answer_in rows run) run.before run.size run.after
  pub fits : run.size ≤ length run.before
  pub slots_are : left.slots ≡ (answer_in rows run).slots
  pub registers_are : left.registers ≡ (answer_in rows run).registers

-- the same of the parameters of the function and what it returns
abbrev pub Handled : {X : Type 0}
    → Both (MutBor (List SlotRow)) (MutBor (List SlotRow))
    → Both (MutBor (List RegisterRow)) (MutBor (List RegisterRow))
    → Supplement
    → Both (Bor (List ℕ)) X
    → Both (MutBor (List ℕ)) (MutBor (List ℕ))
    → Reply
    → Type 0
Handled slots registers supplement request response reply =
    Handles
    (record { slots = slots.entry.now; registers = registers.entry.now })
    (record {
      request = request.entry.now;
      supplement = supplement;
      before = response.entry.now;
      after = response.exit.now;
      outcome = reply.outcome;
      state = reply.state;
      size = reply.length;
    })
    (record { slots = slots.exit.now; registers = registers.exit.now })
