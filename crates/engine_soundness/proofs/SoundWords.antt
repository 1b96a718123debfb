-- Rows are sound exactly where each is sound by itself and the tables that they say are sound in the words of demand 3.
use mathlib.Core.Path.{◌≡◌, refl, sym, ap, ◌∙◌}
use mathlib.Core.Logic.{◌≢◌}
use mathlib.Core.Bool.{Bool, true, false, cond, not, ◌&&◌, ◌||◌}
use mathlib.Core.List.{List, map}
use Prim.Native.Nat.{ℕ, zero, suc}
use lib.Dec.{eqb}
use lib.ListN.{get_or}
use borrow.Author.Tests.{eqb-true}
use Rattle.byte_strings.specs.Strings.{same_bytes}
use Rattle.byte_strings.proofs.Flags.{nope, and_first, and_second, and_both}
use Rattle.byte_strings.proofs.StringLaws.{same_self}
use Rattle.card_attributes.specs.Table.{SGC, KRN, KSL}
use Rattle.row_types.specs.Lists.{every_row, some_row, distinct_rows}
use Rattle.row_types.specs.Slots.{has_state, in_session, kmcid_of, is_named, is_slot_sound, is_same_slot, free_slot}
use Rattle.row_types.specs.Registers.{is_vacant, attribute_of, is_key_of, is_register_sound, is_same_key, is_closed, is_open, free_register}
use Rattle.row_types.specs.Sound.{is_owned, is_in_session, is_mark_sound, are_sound}
use Rattle.row_types.specs.declared.SlotRow.{SlotRow}
use Rattle.row_types.specs.declared.RegisterRow.{RegisterRow}
use Rattle.row_types.specs.declared.SlotState.TheVariants.{Free}
use Rattle.row_types.proofs.ListLaws.{every_at}
use Rattle.row_types.proofs.SoundLaws.{slots_sound, slots_distinct, registers_sound, registers_distinct, registers_owned, marks_sound, faultless, closed_sound, open_sound, open_in_session}
use Rattle.history.specs.Model.{pending, loading, idle, free, used, Carried, vacant, key}
use Rattle.history.proofs.Sound.{Names, Keys, Known, Sound}
use Rattle.history.proofs.BusyLaws.{Busy}
use Rattle.engine.specs.Words.{state_in, slot_is, register_is, tables_of}
use Rattle.engine.proofs.RowWords.{slot_row_lem, named_reads, reads_named, one_name_lem, filled_key, free_vacant, register_row_lem, key_reads, reads_key}
use Rattle.engine.proofs.Steps.{not_idle}
use Rattle.engine.proofs.Places.{sound_at, free_unnamed, free_keyless}
use Rattle.engine_soundness.proofs.RowTests.{every_to, some_from, some_to, Shared, distinct_from, distinct_to}

-- SLOTS: two rows that keep one KMCID are both named by it
of_one_name : (a b : SlotRow) → is_same_slot a b ≡ true → Shared is_named a b
unfolding is_same_slot is_named
of_one_name a b e = record {
  key = kmcid_of a;
  first = and_both (not (has_state Free a)) (same_bytes (kmcid_of a) (kmcid_of a)) (and_first (not (has_state Free a)) (is_named (kmcid_of a) b) e) (same_self (kmcid_of a));
  second = and_second (not (has_state Free a)) (is_named (kmcid_of a) b) e;
}

module _ (slots : List SlotRow) (h : every_row is_slot_sound slots ≡ true) where
  -- a name at a place of the rows, and at that of the slots that they say
  row_named : (i : ℕ) (s : List ℕ) → is_named s (get_or slots i free_slot) ≡ true → get_or (map slot_is slots) i free ≡ used s (state_in (get_or slots i free_slot).state)
  row_named i s e = slot_row_lem slots i ∙ named_reads (get_or slots i free_slot) s e

  named_row : (s : List ℕ) (k : Known (map slot_is slots) s) → is_named s (get_or slots k.row free_slot) ≡ true
  named_row s k = reads_named (get_or slots k.row free_slot) (sound_at slots h k.row) s k.state (sym (slot_row_lem slots k.row) ∙ k.is)

  names_from : distinct_rows is_same_slot slots ≡ true → Names (map slot_is slots)
  names_from e i j s a b p q =
      distinct_from is_named is_same_slot free_slot free_unnamed one_name_lem slots e i j s
      (named_row s (record { row = i; state = a; is = p })) (named_row s (record { row = j; state = b; is = q }))

  names_to : Names (map slot_is slots) → distinct_rows is_same_slot slots ≡ true
  names_to n =
      distinct_to is_named is_same_slot free_slot free_unnamed of_one_name slots
      (λ i j s p q. n i j s _ _ (row_named i s p) (row_named j s q))

-- REGISTERS: two rows hold one key where both hold it; a key is an SGC and a KRN
abbrev holds_key : (List ℕ) × (List ℕ) → RegisterRow → Bool
holds_key k r = is_key_of k.0 k.1 r

-- a row that says a key is filled, and has its attributes and its mark
record Filled (r : RegisterRow) (g k s : List ℕ) (q : Carried) : Type 0 where
  filled : is_vacant r ≡ false
  group : attribute_of SGC r ≡ g
  revision : attribute_of KRN r ≡ k
  slot : attribute_of KSL r ≡ s
  mark : is_open r ≡ q.is_open

key_says : (r : RegisterRow) (g k s c : List ℕ) (q : Carried) → register_is r ≡ key g k s c q → Filled r g k s q
unfolding register_is
key_says r g k s c q e = go (is_vacant r) refl e
  where
    go : (b : Bool) → is_vacant r ≡ b → cond b vacant (key (attribute_of SGC r) (attribute_of KRN r) (attribute_of KSL r) r.card (record { is_open = is_open r })) ≡ key g k s c q → Filled r g k s q
    go true v w = nope (cc)
    go false v w = let m : record { is_open = is_open r } ≡ q = cc in record { filled = v; group = cc; revision = cc; slot = cc; mark = ap (λ (z : Carried). z.is_open) m }

one_key : (k : (List ℕ) × (List ℕ)) (a b : RegisterRow) → holds_key k a ≡ true → holds_key k b ≡ true → is_same_key a b ≡ true
unfolding is_same_key
one_key k a b p q = let w = key_says a k.0 k.1 _ _ _ (key_reads k.0 k.1 a p) in rw (w.filled, w.group, w.revision) q

of_one_key : (a b : RegisterRow) → is_same_key a b ≡ true → Shared holds_key a b
unfolding is_same_key is_key_of
of_one_key a b e = record {
  key = (attribute_of SGC a, attribute_of KRN a);
  first = rw (and_first (not (is_vacant a)) _ e, same_self (attribute_of SGC a), same_self (attribute_of KRN a)) refl;
  second = and_second (not (is_vacant a)) _ e;
}

module _ (registers : List RegisterRow) where
  row_holds : (i : ℕ) (g k : List ℕ) → is_key_of g k (get_or registers i free_register) ≡ true
      → get_or (map register_is registers) i vacant ≡ key g k (attribute_of KSL (get_or registers i free_register)) (get_or registers i free_register).card (record { is_open = is_open (get_or registers i free_register) })
  row_holds i g k e = register_row_lem registers i ∙ key_reads g k (get_or registers i free_register) e

  holds_row : (i : ℕ) (g k s c : List ℕ) (m : Carried) → get_or (map register_is registers) i vacant ≡ key g k s c m → is_key_of g k (get_or registers i free_register) ≡ true
  holds_row i g k s c m e = reads_key g k s c m (get_or registers i free_register) (sym (register_row_lem registers i) ∙ e)

  keys_from : distinct_rows is_same_key registers ≡ true → Keys (map register_is registers)
  keys_from e i j g k s c s' c' m m' p q =
      distinct_from holds_key is_same_key free_register (λ k. free_keyless k.0 k.1) one_key registers e i j (g, k) (holds_row i g k s c m p) (holds_row j g k s' c' m' q)

  keys_to : Keys (map register_is registers) → distinct_rows is_same_key registers ≡ true
  keys_to n =
      distinct_to holds_key is_same_key free_register (λ k. free_keyless k.0 k.1) of_one_key registers
      (λ i j k p q. n i j k.0 k.1 _ _ _ _ _ _ (row_holds i k.0 k.1 p) (row_holds j k.0 k.1 q))

-- each KSL is a slot not free
free_owned : (slots : List SlotRow) → is_owned slots free_register ≡ true
unfolding is_owned
free_owned slots = rw free_vacant refl

module _ (slots : List SlotRow) (registers : List RegisterRow) (h : every_row is_slot_sound slots ≡ true) where
  abbrev KnownAll : Type 0
  KnownAll = (i : ℕ) (g k s c : List ℕ) (m : Carried) → get_or (map register_is registers) i vacant ≡ key g k s c m → Known (map slot_is slots) s

  known_from : every_row (is_owned slots) registers ≡ true → KnownAll
  unfolding is_owned
  known_from e i g k s c m p =
      let r = get_or registers i free_register in
      let w = key_says r g k s c m (sym (register_row_lem registers i) ∙ p) in
      let o = every_at (is_owned slots) free_register (free_owned slots) registers e i in
      let at = some_from (is_named s) free_slot slots (rw (w.filled, w.slot) at o) in
      record { row = at.place; state = _; is = row_named slots h at.place s at.is }

  known_to : KnownAll → every_row (is_owned slots) registers ≡ true
  unfolding is_owned
  known_to n = every_to (is_owned slots) free_register registers each
    where
      owned : (i : ℕ) (b : Bool) → is_vacant (get_or registers i free_register) ≡ b → (b || some_row (is_named (attribute_of KSL (get_or registers i free_register))) slots) ≡ true
      owned i true q = refl
      owned i false q =
          let r = get_or registers i free_register in
          let k = n i (attribute_of SGC r) (attribute_of KRN r) (attribute_of KSL r) r.card _ (register_row_lem registers i ∙ filled_key r q) in
          some_to (is_named (attribute_of KSL r)) free_slot (free_unnamed (attribute_of KSL r)) slots k.row (named_row slots h (attribute_of KSL r) k)

      each : (i : ℕ) → (is_vacant (get_or registers i free_register) || some_row (is_named (attribute_of KSL (get_or registers i free_register))) slots) ≡ true
      each i = owned i (is_vacant (get_or registers i free_register)) refl

-- MARKS: a mark is one by itself where it is closed, or open beside a key
unfoldable pub has_mark : RegisterRow → Bool
has_mark r = is_closed r || (is_open r && not (is_vacant r))

open_unclosed : (r : RegisterRow) → is_open r ≡ true → is_closed r ≡ false
unfolding is_open is_closed
open_unclosed r e = rw (eqb-true r.mark 1 e) refl

-- a free slot is in no session
free_no_session : (s : List ℕ) → is_in_session s free_slot ≡ false
unfolding is_in_session
free_no_session s = rw (free_unnamed s) refl

session_parts : (v : SlotRow) (s : List ℕ) → is_in_session s v ≡ true → (is_named s v ≡ true) × ((eqb v.state 1 || eqb v.state 2) ≡ true)
unfolding is_in_session in_session
session_parts v s q = (and_first (is_named s v) _ q, and_second (is_named s v) _ q)

in_session_lem : (v : SlotRow) (s : List ℕ) → is_named s v ≡ true → in_session v ≡ true → is_in_session s v ≡ true
unfolding is_in_session
in_session_lem v s n u = and_both (is_named s v) (in_session v) n u

-- a free register is closed
free_closed : is_closed free_register ≡ true
unfolding is_closed free_register
free_closed = refl

pub free_mark : has_mark free_register ≡ true
unfolding has_mark
free_mark = rw free_closed refl

mark_parts : (r : RegisterRow) → has_mark r ≡ true → is_closed r ≡ false → (is_open r ≡ true) × (is_vacant r ≡ false)
unfolding has_mark
mark_parts r e q = go (is_open r) (is_vacant r) (rw q at e)
  where
    go : (a b : Bool) → (a && not b) ≡ true → (a ≡ true) × (b ≡ false)
    go true true w = nope (cc)
    go true false w = (refl, refl)
    go false b w = nope (cc)

-- a state that is not IDLE is PENDING or LOADING
busy_state : (v : SlotRow) → state_in v.state ≢ idle → in_session v ≡ true
unfolding in_session
busy_state v o = go (eqb v.state 1) (eqb v.state 2) o
  where
    go : (p q : Bool) → cond p pending (cond q loading idle) ≢ idle → (p || q) ≡ true
    go true q n = refl
    go false true n = refl
    go false false n = absurd (n refl)

module _ (slots : List SlotRow) (registers : List RegisterRow) (h : every_row is_slot_sound slots ≡ true) where
  marks_each : every_row (is_mark_sound slots) registers ≡ true → every_row has_mark registers ≡ true
  unfolding has_mark is_mark_sound
  marks_each e = every_to has_mark free_register registers (λ i. each (get_or registers i free_register) (every_at (is_mark_sound slots) free_register (closed_sound slots free_register free_closed) registers e i))
    where
      each : (r : RegisterRow) → is_mark_sound slots r ≡ true → has_mark r ≡ true
      each r q = go (is_closed r) (is_open r) (not (is_vacant r)) (some_row (is_in_session (attribute_of KSL r)) slots) q
        where
          go : (a b c d : Bool) → (a || (b && (c && d))) ≡ true → (a || (b && c)) ≡ true
          go true b c d w = refl
          go false true true d w = refl
          go false true false d w = nope (cc)
          go false false c d w = nope (cc)

  busy_from : every_row (is_mark_sound slots) registers ≡ true → Busy (tables_of slots registers)
  busy_from e g k zero s c p = let w = p.is in nope (cc)
  busy_from e g k (suc i) s c p =
      let r = get_or registers i free_register in
      let w = key_says r g k s c p.carries (sym (register_row_lem registers i) ∙ p.is) in
      let o = every_at (is_mark_sound slots) free_register (closed_sound slots free_register free_closed) registers e i in
      let z = (open_in_session slots r o (open_unclosed r (w.mark ∙ p.mark))).1 in
      let at = some_from (is_in_session s) free_slot slots (rw w.slot at z) in
      let v = get_or slots at.place free_slot in
      record { row = at.place; state = _; is = row_named slots h at.place s (session_parts v s at.is).0; busy = not_idle v.state (session_parts v s at.is).1 }

  marks_to : every_row has_mark registers ≡ true → Busy (tables_of slots registers) → every_row (is_mark_sound slots) registers ≡ true
  marks_to e β = every_to (is_mark_sound slots) free_register registers (λ i. each i (is_closed (get_or registers i free_register)) refl)
    where
      each : (i : ℕ) (b : Bool) → is_closed (get_or registers i free_register) ≡ b → is_mark_sound slots (get_or registers i free_register) ≡ true
      each i true q = closed_sound slots (get_or registers i free_register) q
      each i false q =
          let r = get_or registers i free_register in
          let m = mark_parts r (every_at has_mark free_register free_mark registers e i) q in
          let β' = β (attribute_of SGC r) (attribute_of KRN r) (suc i) (attribute_of KSL r) r.card (record { carries = record { is_open = is_open r }; is = register_row_lem registers i ∙ filled_key r m.1; mark = m.0 }) in
          let v = get_or slots β'.row free_slot in
          let n = named_row slots h (attribute_of KSL r) (record { row = β'.row; state = β'.state; is = β'.is }) in
          let d : used (attribute_of KSL r) (state_in v.state) ≡ used (attribute_of KSL r) β'.state = sym (row_named slots h β'.row (attribute_of KSL r) n) ∙ β'.is in
          let y : state_in v.state ≡ β'.state = cc in
          let u = busy_state v (λ z. β'.busy (sym y ∙ z)) in
          open_sound slots r m.0 m.1 (some_to (is_in_session (attribute_of KSL r)) free_slot (free_no_session (attribute_of KSL r)) slots β'.row (in_session_lem v (attribute_of KSL r) n u))

-- THE LAW: sound rows are rows each sound by itself that say sound tables
pub record SoundTables (slots : List SlotRow) (registers : List RegisterRow) : Type 0 where
  pub each_slot : every_row is_slot_sound slots ≡ true
  pub each_register : every_row is_register_sound registers ≡ true
  pub each_mark : every_row has_mark registers ≡ true
  pub together : Sound (tables_of slots registers)
  pub busy : Busy (tables_of slots registers)

module _ (slots : List SlotRow) (registers : List RegisterRow) where
  pub sound_from : are_sound slots registers ≡ true → SoundTables slots registers
  sound_from e =
      let h = slots_sound slots registers e in
      record {
        each_slot = h;
        each_register = registers_sound slots registers e;
        each_mark = marks_each slots registers h (marks_sound slots registers e);
        together = record {
          names = names_from slots h (slots_distinct slots registers e);
          keys = keys_from registers (registers_distinct slots registers e);
          known = known_from slots registers h (registers_owned slots registers e);
        };
        busy = busy_from slots registers h (marks_sound slots registers e);
      }

  pub sound_to : SoundTables slots registers → are_sound slots registers ≡ true
  sound_to r =
      let h = r.each_slot in
      let t = r.together in
      faultless slots registers h (names_to slots h t.names) r.each_register (keys_to registers t.keys) (known_to slots registers h t.known) (marks_to slots registers h r.each_mark r.busy)
