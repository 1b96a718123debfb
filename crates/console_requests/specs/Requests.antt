-- A request that the console hands in (docs/CONSOLE.md): its answer, the state after it, and the line of the answer.
use Rattle.std.specs.Prelude.{ℕ, cond, List, leb}
use Rattle.byte_strings.specs.Wrote.{Wrote}
use Rattle.engine.specs.Answers.{Answer, response, answer_of}
use Rattle.engine.specs.Calls.{call_in, tables_after}
use Rattle.engine.specs.Outcomes.{outcome_number}
use Rattle.engine.specs.declared.Outcome.{Outcome}
use Rattle.entry_contracts.specs.Numbers.{state_byte}
use Rattle.console_state.specs.State.{with_tables}
use Rattle.console_state.specs.declared.Console.{Console}
use Rattle.console_answers.specs.Answers.{answer_line}

-- how many bytes of response buffer are lent; `buffer` sets at most 2,048
unfoldable pub room : Console → ℕ
room c = cond (leb c.room 2048) c.room 2048

-- the answer to a request
abbrev pub answer_by : Console → List ℕ → Answer
answer_by c request = answer_of (call_in c.tables c.supplement request (room c))

-- the state after a request
abbrev pub answered_by : Console → List ℕ → Console
answered_by c request = with_tables (tables_after c.tables (answer_by c request)) c

-- line number, outcome, slot state left (255, which is that of no state, is printed as -), response
abbrev pub outcome_line : ℕ → Outcome → List ℕ → List ℕ
outcome_line n o r = answer_line n (outcome_number o) (state_byte o) r

-- the line of a request's answer is printed
abbrev pub SaysAnswer : Console → ℕ → List ℕ → List ℕ → List ℕ → ℕ → Type 0
SaysAnswer c number request before now n =
    Wrote before 0 (outcome_line number (answer_by c request).outcome (response (answer_by c request))) now n
