-- THE THREE DEMANDS, over what a caller of `diminurel_handle` sees. What the function promises of a call, with the rows
-- before it and after it, is `Handles` (entry_contracts/specs/Handles.antt).
use Rattle.std.specs.Prelude.{ℕ, ◌≤◌, ◌≡◌, ◌↔◌, ◌≢◌, true, List, [], ◌∷◌, map, length, take, drop}
use Rattle.std.proofs.Math.Option.{Option, none, some}
use Rattle.message_replies.specs.Responses.{Reply, Says}
use Rattle.message_commands.specs.declared.Command.TheVariants.{KC, KR, KL, KF, KX}
use Rattle.history.specs.Model.{Item}
use Rattle.history.specs.Demand3.{Demand3}
use Rattle.engine.specs.Refusals.{refusal}
use Rattle.engine.specs.Requests.{is_among, command_in, fields_in, slot_in}
use Rattle.engine.specs.Questions.{slot_named, questions, first_no}
use Rattle.engine.specs.Answers.{refusal_reply}
use Rattle.engine.specs.Words.{Input, Lent, call_of, tables_of, item_of, empty_rows}
use Rattle.engine.specs.declared.Refusal.{Refusal}
use Rattle.entry_contracts.specs.Handles.{Run, Handles, input_in, answer_in}

-- the response: the first bytes of the buffer after the call, as many as was answered, never what lies beyond
abbrev pub response_in : Run → List ℕ
response_in run = take run.size run.after

-- bytes that say a reply: no byte where there is none; else framed as a request is, and read as just its header, its
-- status and its fields
abbrev pub SaysReply : List ℕ → Option Reply → Type 0
SaysReply bytes none = bytes ≡ []
SaysReply bytes (some reply) = Says bytes reply

-- DEMAND 1, of a call over rows of any content
pub record Demand1 (rows : Lent) (run : Run) (left : Lent) : Type 0 where
  -- it ends in acceptance, 0, or in one of the refusal numbers 1 to 21
  pub ends : run.outcome ≤ 21
  -- a refusal changes no slot and no register
  pub keeps : run.outcome ≢ 0 → left ≡ rows
  -- refusals 1 to 4 give length 0 and write nothing
  pub unwritten : 1 ≤ run.outcome → run.outcome ≤ 4 → (run.size ≡ 0) × (run.after ≡ run.before)
  -- the response to each refusal
  pub refused : (r : Refusal) → run.outcome ≡ (refusal r).number
      → SaysReply (response_in run) (refusal_reply run.request r)
  -- the response fits, and bytes of the buffer beyond it keep their value
  pub fits : run.size ≤ length run.before
  pub beyond : drop run.size run.after ≡ drop run.size run.before

-- the slot that a request names
abbrev pub slot_name_in : Run → List ℕ
slot_name_in run = slot_in (command_in run.request) (fields_in run.request)

-- DEMAND 2, of the same
pub record Demand2 (rows : Lent) (run : Run) (left : Lent) : Type 0 where
  -- the request is accepted exactly when every question is a yes,
  pub accepted : (run.outcome ≡ 0) ↔ (first_no (questions (call_of rows (input_in run))) ≡ none)
  -- and refused exactly by the first no
  pub refused : (r : Refusal)
      → (run.outcome ≡ (refusal r).number) ↔ (first_no (questions (call_of rows (input_in run))) ≡ some r)
  -- the response reads back as just the reply that the standards want
  pub replied : SaysReply (response_in run) (answer_in rows run).reply
  -- a slot state is answered (255 is none) exactly to an accepted session command,
  pub session : (run.state ≢ 255)
      ↔ ((run.outcome ≡ 0) × (is_among (command_in run.request) (KC ∷ KR ∷ KL ∷ KF ∷ KX ∷ []) ≡ true))
  -- and is the state of its slot's row among the rows that are left; 0, free, where no row keeps the name
  pub state_left : run.state ≢ 255 → run.state ≡ (slot_named (slot_name_in run) left.slots).state

-- a list of calls, each over the rows that the one before it left, whatever is handed in and lent at each
abbrev pub Runs : Lent → List Run → Lent → Type 0
Runs rows [] left = rows ≡ left
Runs rows (run ∷ runs) left = (between : Lent) × (Handles rows run between × Runs between runs left)

-- a call as an item of the list: its request and its response, read off their bytes
abbrev pub item_in : Run → Item
item_in run = item_of run.request (response_in run)

-- DEMAND 3, of every list of calls from empty tables of any row counts: what it says of the list and of the rows that
-- are left is history/specs/Demand3.antt
abbrev pub HoldsOfLists : Type 0
HoldsOfLists =
    (slot-count register-count : ℕ) (runs : List Run) (left : Lent)
    → Runs (empty_rows slot-count register-count) runs left
    → Demand3 (map item_in runs) (tables_of left.slots left.registers)

-- there are calls as promised for whatever is handed in, over whatever rows: no demand holds for want of one
pub record HasRuns (rows : Lent) (inputs : List Input) : Type 0 where
  pub runs : List Run
  pub left : Lent
  pub go : Runs rows runs left
  pub given : map input_in runs ≡ inputs
