-- What is promised of a call over tables by value, in numbers.
use Rattle.std.specs.Prelude.{ℕ, ◌≤◌, ◌≡◌, List, length}
use Rattle.row_types.specs.declared.Tables.{Tables}
use Rattle.engine.specs.Answers.{Answer, Responded}
use Rattle.engine.specs.Calls.{tables_after}
use Rattle.engine.specs.Outcomes.{outcome_number}
use Rattle.entry_contracts.specs.Numbers.{state_byte}
use Rattle.entry_contracts.specs.declared.Reply.{Reply}

-- the answer a over the tables t is replied: outcome and state in numbers, the response in the buffer, as it was before
-- and is after, and the tables that are left
pub record Replies (t : Tables) (a : Answer) (before after : List ℕ) (reply : Reply) (left : Tables) : Type 0 where
  pub outcome_is : reply.outcome ≡ outcome_number a.outcome
  pub state_is : reply.state ≡ state_byte a.outcome
  pub written : Responded a before reply.length after
  pub fits : reply.length ≤ length before
  pub tables_are : left ≡ tables_after t a
