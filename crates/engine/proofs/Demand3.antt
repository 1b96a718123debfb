-- DEMAND 3 of the engine, and the sentence on marks beside it: for every list of calls, from empty tables of all row counts, whatever the requests, supplements and buffers hold.
use mathlib.Core.Path.{◌≡◌, refl}
use mathlib.Core.List.{List}
use Prim.Native.Nat.{ℕ}
use lib.ListN.{length, drop}
use lib.Seq.{take_at}
use Rattle.row_types.specs.Slots.{free_slot}
use Rattle.row_types.specs.Registers.{free_register}
use Rattle.row_types.proofs.ListLaws.{map_replicate}
use Rattle.history.specs.History.{finally, trace}
use Rattle.history.specs.Model.{Tables, empty}
use Rattle.history.specs.Step.{Step}
use Rattle.history.specs.Demand3.{Demand3}
use Rattle.history.specs.Marks.{Marks}
use Rattle.history.proofs.Theorem as theorem
use Rattle.engine.specs.Answers.{response, answer_of}
use Rattle.engine.specs.Words.{slot_is, register_is, tables_of, Input, Lent, call_of, rows_after, answer_bytes, item_at, empty_rows}
use Rattle.engine.proofs.RowWords.{free_reads, free_register_reads}
use Rattle.engine.proofs.Steps.{answer_step}

-- the first bytes of the buffer, as many as the response has, are the response
answer_is : (bytes buffer : List ℕ) → answer_bytes bytes buffer ≡ bytes
answer_is bytes buffer = take_at bytes (drop (length bytes) buffer) (length bytes) refl

abbrev pub rows_of : Lent → Tables
rows_of t = tables_of t.slots t.registers

pub steps : (t : Lent) (e : Input) → Step (rows_of t) (item_at t e) (rows_of (rows_after t e))
steps t e = rw (answer_is (response (answer_of (call_of t e))) e.buffer) (answer_step (call_of t e) refl)

pub starts_empty : (a b : ℕ) → rows_of (empty_rows a b) ≡ empty a b
unfolding empty_rows empty
starts_empty a b = rw (map_replicate slot_is a free_slot, map_replicate register_is b free_register, free_reads, free_register_reads) refl

pub demand3 : (a b : ℕ) (calls : List Input)
    → Demand3 (trace rows_after item_at (empty_rows a b) calls) (rows_of (finally rows_after item_at (empty_rows a b) calls))
demand3 a b calls = theorem.demand3 rows_after item_at rows_of steps (empty_rows a b) a b (starts_empty a b) calls

-- which of the keys that stand are open (document 02, N3)
pub marks : (a b : ℕ) (calls : List Input)
    → Marks (trace rows_after item_at (empty_rows a b) calls) (rows_of (finally rows_after item_at (empty_rows a b) calls))
marks a b calls = theorem.marks rows_after item_at rows_of steps (empty_rows a b) a b (starts_empty a b) calls
