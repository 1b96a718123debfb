-- Demand 3 of every list of calls, and that every list of what is handed in has such calls.
use Prim.Native.Nat.{ℕ, ◌≤◌}
use mathlib.Core.Path.{◌≡◌, refl, sym, ap, subst, ◌∙◌}
use mathlib.Core.Bool.{Bool, true, false}
use mathlib.Core.List.{List, [], ◌∷◌, map}
use mathlib.Core.Option.{Option, none, some}
use native.Mathlib.Omega.{arith}
use lib.Dec.{leb}
use lib.ListN.{length, take}
use borrow.Author.Tests.{leb-true}
use Rattle.byte_strings.proofs.Flags.{nope, and_first, and_second}
use Rattle.message_frames.specs.Frames.{is_whole, ends_in_return}
use Rattle.message_replies.specs.Responses.{Reply, reply_bytes}
use Rattle.history.specs.History.{finally, trace}
use Rattle.history.specs.Model.{Item}
use Rattle.history.specs.Demand3.{Demand3}
use Rattle.engine.specs.Questions.{Call, are_counts, questions}
use Rattle.engine.specs.Answers.{Answer, response, response_of, buffer_after, refused, answer_of}
use Rattle.engine.specs.Outcomes.{outcome_number}
use Rattle.engine.specs.Words.{Lent, Input, call_of, tables_of, item_of, item_at, rows_after, empty_rows}
use Rattle.engine.proofs.ReadsBack.{reads_back}
use Rattle.engine.proofs.Demand3 as engine
use Rattle.entry_contracts.specs.Numbers.{state_byte}
use Rattle.entry_contracts.specs.Handles.{Run, Handles, input_in}
use Rattle.demands.specs.Demands.{Runs, item_in, HoldsOfLists, HasRuns}

same_item : (t : Lent) (r : Run) (u : Lent) → Handles t r u → item_in r ≡ item_at t (input_in r)
same_item t r u h = λ j. item_of r.request (take (h.written.0 j) (h.written.1 j))

same_rows : (t : Lent) (r : Run) (u : Lent) → Handles t r u → u ≡ rows_after t (input_in r)
same_rows t r u h = λ j. record { slots = h.slots_are j; registers = h.registers_are j }

-- the calls are a list of which demand 3 is proved
pub record Same (t : Lent) (rs : List Run) (w : Lent) : Type 0 where
  pub calls : List Input
  pub items : map item_in rs ≡ trace rows_after item_at t calls
  pub rows : w ≡ finally rows_after item_at t calls

pub same : (t : Lent) (rs : List Run) (w : Lent) → Runs t rs w → Same t rs w
unfolding finally trace
same t [] w m = record { calls = []; items = refl; rows = sym m }
same t (r ∷ rs) w m =
    let u = m.0 in
    let h = m.1.0 in
    let k = same u rs w m.1.1 in
    let e = input_in r in
    let n = same_rows t r u h in
    let tail : map item_in rs ≡ trace rows_after item_at (rows_after t e) k.calls = k.items ∙ ap (λ (l : Lent). trace rows_after item_at l k.calls) n in
    record {
      calls = e ∷ k.calls;
      items = λ j. same_item t r u h j ∷ tail j;
      rows = k.rows ∙ ap (λ (l : Lent). finally rows_after item_at l k.calls) n;
    }

pub demand3 : HoldsOfLists
demand3 a b rs w m =
    let k = same (empty_rows a b) rs w m in
    subst (λ (h : List Item). Demand3 h (tables_of w.slots w.registers)) (sym k.items)
    (subst (λ (u : Lent). Demand3 (trace rows_after item_at (empty_rows a b) k.calls) (tables_of u.slots u.registers)) (sym k.rows) (engine.demand3 a b k.calls))

whole_short : (s : List ℕ) → is_whole s ≡ true → length s ≤ 1024
unfolding is_whole
whole_short s w = leb-true (length s) 1024 (and_first (leb (length s) 1024) (ends_in_return s) (and_second (leb 10 (length s)) _ w))

-- A CALL FOR WHATEVER IS HANDED IN. A buffer that is too short is not written to, and else a response fits
module _ (x : Call) where
  short_unwritten : leb 1024 x.room ≡ false → (answer_of x).reply ≡ none
  unfolding answer_of questions refused
  short_unwritten o = go (are_counts x.slot_count x.register_count) refl
    where
      go : (b : Bool) → are_counts x.slot_count x.register_count ≡ b → (answer_of x).reply ≡ none
      go true e = rw (e, o) refl
      go false e = rw e refl

  response_fits : x.slot_count ≡ length x.slots → x.register_count ≡ length x.registers → length (response (answer_of x)) ≤ x.room
  response_fits m n = go (answer_of x).reply refl (leb 1024 x.room) refl
    where
      go : (o : Option Reply) → (answer_of x).reply ≡ o → (b : Bool) → leb 1024 x.room ≡ b → length (response_of o) ≤ x.room
      go none e b w = omega arith
      go (some r) e true w =
          let whole : is_whole (reply_bytes r) ≡ true = subst (λ (o : Option Reply). is_whole (response_of o) ≡ true) e (reads_back x m n r e).whole in
          omega (arith, whole_short (reply_bytes r) whole, leb-true 1024 x.room w)
      go (some r) e false w = nope (let z = sym e ∙ short_unwritten w in cc)

module _ (rows : Lent) (e : Input) where
  abbrev answer : Answer
  answer = answer_of (call_of rows e)

  abbrev bytes : List ℕ
  bytes = response answer

  abbrev run : Run
  run = record {
    request = e.request;
    supplement = e.supplement;
    before = e.buffer;
    after = buffer_after bytes e.buffer;
    outcome = outcome_number answer.outcome;
    state = state_byte answer.outcome;
    size = length bytes;
  }

  abbrev left : Lent
  left = record { slots = answer.slots; registers = answer.registers }

  handles : Handles rows run left
  handles = record {
    outcome_is = refl;
    state_is = refl;
    written = (refl, refl);
    fits = response_fits (call_of rows e) refl refl;
    slots_are = refl;
    registers_are = refl;
  }

pub every_list : (rows : Lent) (inputs : List Input) → HasRuns rows inputs
every_list rows [] = record { runs = []; left = rows; go = refl; given = refl }
every_list rows (e ∷ es) =
    let k = every_list (left rows e) es in
    record {
      runs = run rows e ∷ k.runs;
      left = k.left;
      go = (left rows e, (handles rows e, k.go));
      given = ap (λ (l : List Input). e ∷ l) k.given;
    }
