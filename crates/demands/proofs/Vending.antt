-- Which keys are open after every list of calls, and so which may vend.
use Prim.Native.Nat.{ℕ, zero, suc, ◌-◌, ◌≤◌}
use mathlib.Core.Path.{◌≡◌, refl, sym, ap, subst, ◌∙◌}
use mathlib.Core.Bool.{Bool, true, false, not}
use mathlib.Core.List.{List, [], ◌∷◌, map}
use native.Mathlib.Omega.{arith}
use lib.Dec.{leb}
use lib.ListN.{length, get_or, take, length-map, length-replicate}
use lib.Seq.{take_all}
use borrow.Author.Tests.{le-leb, eqb-true}
use Rattle.byte_strings.proofs.Flags.{nope, and_second, no, holds}
use Rattle.card_attributes.specs.Table.{SGC, KRN, KSL}
use Rattle.row_types.specs.Slots.{free_slot}
use Rattle.row_types.specs.Registers.{is_vacant, attribute_of, is_closed, is_open, free_register}
use Rattle.row_types.specs.Sound.{are_sound, is_mark_sound}
use Rattle.row_types.specs.declared.RegisterRow.{RegisterRow}
use Rattle.row_types.specs.declared.Tables.{Tables}
use Rattle.row_types.proofs.ListLaws.{every_at}
use Rattle.row_types.proofs.SoundLaws.{marks_sound, closed_sound, open_in_session}
use Rattle.history.specs.History.{finally, trace}
use Rattle.history.specs.Model.{Item, Carried, key, register_at}
use Rattle.history.specs.Model as model
use Rattle.history.specs.Demand3.{Live, StandsIn}
use Rattle.history.specs.Marks.{StandsClosed, Marks}
use Rattle.history.proofs.Latch.{inv_finally}
use Rattle.history.proofs.Laws.{none_stands}
use Rattle.history.proofs.Sound.{key_within}
use Rattle.engine.specs.Questions.{are_counts, is_filled, questions}
use Rattle.engine.specs.Answers.{answer_of, refused}
use Rattle.engine.specs.Usable.{is_usable}
use Rattle.engine.specs.Words.{register_is, tables_of, Input, Lent, call_of, rows_after, item_at, empty_rows}
use Rattle.engine.proofs.RowWords.{vacant_reads, filled_key, register_row_lem}
use Rattle.engine.proofs.Counted.{counted}
use Rattle.engine.proofs.Demand3 as engine
use Rattle.engine.proofs.Vending.{closed_vends, vends_filled, vends_closed}
use Rattle.engine_soundness.proofs.StaysSound.{never_unsound}
use Rattle.entry_contracts.specs.Handles.{Run}
use Rattle.entry_contracts.specs.Lent.{lent_tables}
use Rattle.demands.specs.Demands.{Runs, item_in}
use Rattle.demands.specs.Vending.{MarksOfLists, MayVend, VendsOfLists}
use Rattle.demands.proofs.Lists.{Same, same, demand3}

pub marks : MarksOfLists
marks a b rs w m =
    let k = same (empty_rows a b) rs w m in
    subst (λ (h : List Item). Marks h (tables_of w.slots w.registers)) (sym k.items)
    (subst (λ (u : Lent). Marks (trace rows_after item_at (empty_rows a b) k.calls) (tables_of u.slots u.registers)) (sym k.rows) (engine.marks a b k.calls))

-- A REGISTER that reads as a closed key, and one that is filled and closed
record Closed (registers : List RegisterRow) (n : ℕ) : Type 0 where
  filled : is_filled n registers ≡ true
  closed : is_closed (get_or registers (n - 1) free_register) ≡ true

closed_not_open : (r : RegisterRow) → is_closed r ≡ true → is_open r ≡ false
unfolding is_closed is_open
closed_not_open r e = rw (eqb-true r.mark 0 e) refl

-- the key that such a register holds
module _ (registers : List RegisterRow) (i : ℕ) where
  abbrev row : RegisterRow
  row = get_or registers i free_register

  reads_closed : is_filled (suc i) registers ≡ true → is_closed (get_or registers (suc i - 1) free_register) ≡ true
      → (register_at (map register_is registers) (suc i) ≡ key (attribute_of SGC row) (attribute_of KRN row) (attribute_of KSL row) row.card (record { is_open = false }))
  unfolding is_filled
  reads_closed f c =
      let m : suc i - 1 ≡ i = omega arith in
      let v = rw m at (and_second (leb (suc i) (length registers)) _ (and_second (leb 1 (suc i)) _ f)) in
      let o : is_vacant row ≡ false = no (is_vacant row) (holds (not (is_vacant row)) v) in
      let k : is_open row ≡ false = closed_not_open row (rw m at c) in
      rw (← k) (register_row_lem registers i ∙ filled_key row o)

  -- and back, where its mark is sound
  closed_reads : (g r s c : List ℕ) (q : Carried) → register_at (map register_is registers) (suc i) ≡ key g r s c q → q.is_open ≡ false → (is_closed row ≡ false → is_open row ≡ true) → Closed registers (suc i)
  unfolding is_filled
  closed_reads g r s c q e o sound = record { filled = rw (le-leb 1 (suc i) (omega arith), le-leb (suc i) (length registers) within, m, filled (is_vacant row) refl) refl; closed = rw m (shut (is_closed row) refl) }
    where
      m : suc i - 1 ≡ i
      m = omega arith

      reads : register_is row ≡ key g r s c q
      reads = sym (register_row_lem registers i) ∙ e

      within : suc i ≤ length registers
      within = let h = key_within (map register_is registers) i g r s c q e in let l = length-map registers register_is in omega (arith, h, l)

      filled : (t : Bool) → is_vacant row ≡ t → is_vacant row ≡ false
      filled true v = nope (let w = sym (vacant_reads row v) ∙ reads in cc)
      filled false v = v

      open_is : is_open row ≡ false
      open_is = let w : key (attribute_of SGC row) (attribute_of KRN row) (attribute_of KSL row) row.card (record { is_open = is_open row }) ≡ key g r s c q = sym (filled_key row (filled (is_vacant row) refl)) ∙ reads in
          let z : record { is_open = is_open row } ≡ q = cc in ap (λ (y : Carried). y.is_open) z ∙ o

      shut : (t : Bool) → is_closed row ≡ t → is_closed row ≡ true
      shut true v = v
      shut false v = nope (let w = sound v in let y = open_is in cc)

-- ROWS keep their counts, and where these are out of range no row changes
empty_counts : (a b : ℕ) → (length (empty_rows a b).slots ≡ a) × (length (empty_rows a b).registers ≡ b)
unfolding empty_rows
empty_counts a b = (length-replicate a free_slot, length-replicate b free_register)

counts_kept : (a b : ℕ) (calls : List Input) → (length (finally rows_after item_at (empty_rows a b) calls).slots ≡ a) × (length (finally rows_after item_at (empty_rows a b) calls).registers ≡ b)
counts_kept a b calls =
    inv_finally rows_after item_at (λ t. (length t.slots ≡ a) × (length t.registers ≡ b))
    (λ t e i. let c = counted (call_of t e) in (c.0 ∙ i.0, c.1 ∙ i.1)) (empty_rows a b) calls (empty_counts a b)

free_closed : is_closed free_register ≡ true
unfolding is_closed free_register
free_closed = refl

unchanged : (t : Lent) → are_counts (length t.slots) (length t.registers) ≡ false → (e : Input) → rows_after t e ≡ t
unfolding answer_of questions refused
unchanged t o e = rw o refl

never_changed : (t : Lent) → are_counts (length t.slots) (length t.registers) ≡ false → (calls : List Input) → finally rows_after item_at t calls ≡ t
unfolding finally
never_changed t o [] = refl
never_changed t o (e ∷ es) = ap (λ (u : Lent). finally rows_after item_at u es) (unchanged t o e) ∙ never_changed t o es

-- after a list of calls
module _ (a b : ℕ) (runs : List Run) (left : Lent) (m : Runs (empty_rows a b) runs left) where
  k : Same (empty_rows a b) runs left
  k = same (empty_rows a b) runs left m

  abbrev h : List Item
  h = map item_in runs

  abbrev t : Tables
  t = lent_tables left.slots left.registers

  all_registers : take (length left.registers) left.registers ≡ left.registers
  all_registers = take_all (length left.registers) left.registers (omega arith)

  all_slots : take (length left.slots) left.slots ≡ left.slots
  all_slots = take_all (length left.slots) left.slots (omega arith)

  sound : are_sound left.slots left.registers ≡ true
  sound = subst (λ (u : Lent). are_sound u.slots u.registers ≡ true) (sym k.rows) (never_unsound a b k.calls)

  abbrev T : model.Tables
  T = tables_of left.slots left.registers

  -- where a key stands, the counts are in range
  in_range : (g r : List ℕ) (n : ℕ) (s c : List ℕ) → StandsIn T g r n s c → are_counts (length left.slots) (length left.registers) ≡ true
  in_range g r n s c p = go (are_counts (length left.slots) (length left.registers)) refl
    where
      same_counts : are_counts (length left.slots) (length left.registers) ≡ are_counts (length (empty_rows a b).slots) (length (empty_rows a b).registers)
      same_counts =
          let q = subst (λ (u : Lent). (length u.slots ≡ a) × (length u.registers ≡ b)) (sym k.rows) (counts_kept a b k.calls) in
          let z = empty_counts a b in
          λ j. are_counts ((q.0 ∙ sym z.0) j) ((q.1 ∙ sym z.1) j)

      go : (x : Bool) → are_counts (length left.slots) (length left.registers) ≡ x → are_counts (length left.slots) (length left.registers) ≡ true
      go true e = e
      go false e =
          let u : left ≡ empty_rows a b = k.rows ∙ never_changed (empty_rows a b) (sym same_counts ∙ e) k.calls in
          let y : T ≡ model.empty a b = ap (λ (l : Lent). tables_of l.slots l.registers) u ∙ engine.starts_empty a b in
          absurd (none_stands a b g r n s c (subst (λ (x : model.Tables). StandsIn x g r n s c) y p))

  -- a register that may vend by its row may vend by the list,
  closed_live : (g r : List ℕ) (n : ℕ) (s c : List ℕ) → StandsClosed T g r n s c → MayVend h n
  closed_live g r n s c p =
      let d = demand3 a b runs left m in
      let q : StandsIn T g r n s c = record { carries = p.carries; is = p.is } in
      let l = (d.exactly g r).0 (record { number = n; slot = s; card = c; is = q }) in
      let o = d.only g r l.number n l.slot l.card s c l.is q in
      let live : Live h g r n s c =
      subst (λ (z : ℕ). Live h g r z s c) (sym o.0) (subst (λ (z : List ℕ). Live h g r l.number z c) (sym o.1) (subst (λ (z : List ℕ). Live h g r l.number l.slot z) (sym o.2) l.is)) in
      record { group = g; revision = r; slot = s; card = c; live = live; closed = ((marks a b runs left m).closed_exactly g r n s c live).0 p }

  usable_vends : (n : ℕ) → is_usable t n ≡ true → MayVend h n
  unfolding is_filled
  usable_vends zero y = let f = vends_filled t zero y in nope (cc)
  usable_vends (suc i) y =
      let r = get_or left.registers i free_register in
      let f = rw all_registers at (vends_filled t (suc i) y) in
      let c = rw all_registers at (vends_closed t (suc i) y) in
      closed_live (attribute_of SGC r) (attribute_of KRN r) (suc i) (attribute_of KSL r) r.card (record { carries = record { is_open = false }; is = reads_closed left.registers i f c; mark = refl })

  -- and back
  vends_usable : (n : ℕ) → MayVend h n → is_usable t n ≡ true
  vends_usable n v =
      let p = ((marks a b runs left m).closed_exactly v.group v.revision n v.slot v.card v.live).1 v.closed in
      go n p (in_range v.group v.revision n v.slot v.card (record { carries = p.carries; is = p.is }))
    where
      mark_sound : (i : ℕ) → is_closed (get_or left.registers i free_register) ≡ false → is_open (get_or left.registers i free_register) ≡ true
      mark_sound i e =
          let o = every_at (is_mark_sound left.slots) free_register (closed_sound left.slots free_register free_closed) left.registers (marks_sound left.slots left.registers sound) i in
          (open_in_session left.slots (get_or left.registers i free_register) o e).0

      go : (n : ℕ) → StandsClosed T v.group v.revision n v.slot v.card → are_counts (length left.slots) (length left.registers) ≡ true → is_usable t n ≡ true
      go zero p c = let w = p.is in nope (cc)
      go (suc i) p c =
          let q = closed_reads left.registers i v.group v.revision v.slot v.card p.carries p.is p.mark (mark_sound i) in
          closed_vends t (suc i) c (rw (all_slots, all_registers) sound) (rw all_registers q.filled) (rw all_registers q.closed)

pub vends : VendsOfLists
vends a b runs left m n = (usable_vends a b runs left m n, vends_usable a b runs left m n)
