-- Sound rows stay sound: each row that an answer writes is sound by itself, and together they take a step of demand 3, which keeps the tables sound.
use mathlib.Core.Path.{◌≡◌, refl}
use mathlib.Core.Logic.{◌≢◌}
use mathlib.Core.Bool.{Bool, true, false}
use mathlib.Core.List.{List}
use mathlib.Core.Option.{Option, none, some}
use Prim.Native.Nat.{ℕ}
use lib.Dec.{eqb}
use lib.ListN.{replicate}
use Rattle.byte_strings.proofs.Flags.{nope, and_first, and_second}
use Rattle.text_classes.specs.Identifiers.{is_identifier}
use Rattle.text_timestamps.specs.Timestamps.{is_timestamp}
use Rattle.field_values.specs.Values.{Value}
use Rattle.message_commands.specs.declared.Command.{Command}
use Rattle.message_commands.specs.declared.Command.TheVariants.{RS, KC, KR, KL, KF, KX, KD, GA, GL, KQ, Unknown}
use Rattle.record_parser.specs.Records.{field}
use Rattle.text_forms.specs.Forms.{in_form}
use Rattle.text_forms.specs.declared.Form.TheVariants.{Hex, Timestamp}
use Rattle.record_identities.specs.Identities.{colon, name_in, fingerprint_in, identity_in_form}
use Rattle.record_types.specs.KeyRecords.{public_key_in_form}
use Rattle.row_types.specs.Lists.{every_row}
use Rattle.row_types.specs.Slots.{state_number, is_slot_sound, free_slot, moved_slot, reset_slot}
use Rattle.row_types.specs.Registers.{is_register_sound, free_register, without_slot, closed_row, closed_under}
use Rattle.row_types.specs.Sound.{are_sound}
use Rattle.row_types.specs.Supplements.{is_well_formed}
use Rattle.row_types.specs.declared.SlotState.{SlotState}
use Rattle.row_types.specs.declared.SlotState.TheVariants.{Loading, Idle}
use Rattle.history.specs.History.{finally}
use Rattle.history.proofs.Latch.{inv_finally}
use Rattle.history.proofs.Sound.{sound_step, sound_empty}
use Rattle.history.proofs.BusyLaws.{busy_step, busy_empty}
use Rattle.engine.specs.Refusals.{refusal}
use Rattle.engine.specs.Requests.{command_in, fields_in, record_in, kmc_identity_in, slot_in, card_in, first_text}
use Rattle.engine.specs.Questions.{Call, slot_named, questions, first_no}
use Rattle.engine.specs.Answers.{Answer, slots_moved, slots_pending, slots_without, answered, effect, refused, answer_to, answer_of}
use Rattle.engine.specs.Words.{tables_of, Input, Lent, call_of, rows_after, item_at, empty_rows}
use Rattle.engine.specs.declared.Refusal.{Refusal}
use Rattle.engine.specs.declared.Refusal.TheVariants.{UnsoundRows}
use Rattle.engine.specs.declared.Outcome.TheVariants.{Refused}
use Rattle.engine.proofs.RowWords.{named_state, free_register_sound}
use Rattle.engine.proofs.Places.{KnownAt, known_at, free_sound, sound_at}
use Rattle.engine.proofs.AnswerLaws.{refused_by, held_not}
use Rattle.engine.proofs.Steps.{Yes, yes_of, row_is, identity_name, key_identity, is_name, is_card_lem, is_check, moves}
use Rattle.engine.proofs.Demand3.{starts_empty}
use Rattle.engine_soundness.proofs.RowTests.{every_set, every_map, every_replicate}
use Rattle.engine_soundness.proofs.SoundWords.{has_mark, free_mark, SoundTables, sound_from, sound_to}
use Rattle.engine_soundness.proofs.WrittenRows.{opened_sound, moved_sound, reset_sound, without_sound, closed_sound, under_sound, loaded_sound, closed_mark_lem, under_mark, without_mark, loaded_mark}

-- every row of an answer is sound by itself
pub record EachSound (a : Answer) : Type 0 where
  pub slots : every_row is_slot_sound a.slots ≡ true
  pub registers : every_row is_register_sound a.registers ≡ true
  pub marks : every_row has_mark a.registers ≡ true

-- the fingerprint in an identity in form
identity_fingerprint : (q : List ℕ) → identity_in_form q ≡ true → in_form (Hex 16) (fingerprint_in q) ≡ true
unfolding identity_in_form
identity_fingerprint q e =
    and_second (in_form Timestamp (field colon 3 q)) _ (and_second (is_identifier (name_in q)) _ (and_second (is_identifier (field colon 1 q)) _ e))

-- each command, accepted over sound rows
module _ (x : Call) (vs : List Value) (s : SoundTables x.slots x.registers) where
  each_rs : Yes x RS vs → EachSound (effect x RS vs (record_in RS vs) (slot_in RS vs))
  unfolding answered
  each_rs y = record {
    slots = every_map is_slot_sound reset_slot reset_sound x.slots s.each_slot;
    registers = every_map is_register_sound closed_row closed_sound x.registers s.each_register;
    marks = every_map has_mark closed_row closed_mark_lem x.registers s.each_mark;
  }

  each_kc : Yes x KC vs → EachSound (effect x KC vs (record_in KC vs) (slot_in KC vs))
  unfolding answered slots_pending record_in slot_in is_well_formed
  each_kc y =
      let q = kmc_identity_in (first_text vs) in
      let i = key_identity (first_text vs) (and_first (public_key_in_form (first_text vs)) _ y.form) in
      let w = opened_sound (name_in q) (fingerprint_in q) x.supplement.clock (identity_name q i) (identity_fingerprint q i) (and_first (is_timestamp x.supplement.clock) _ y.supplement) in
      record { slots = every_set is_slot_sound x.slots _ _ w s.each_slot; registers = s.each_register; marks = s.each_mark }

  -- SM?KR and SM?KF
  slots_moved_lem : (c : Command) (y : Yes x c vs) (k : KnownAt x.slots (slot_in c vs)) (a : SlotState) → eqb (state_number a) 0 ≡ false → eqb (state_number a) 1 ≡ false
      → every_row is_slot_sound (slots_moved a (slot_in c vs) x.slots) ≡ true
  slots_moved_lem c y k a n p =
      let v = slot_named (slot_in c vs) x.slots in
      let e = row_is x c vs y k in
      let w = moved_sound v (rw e (sound_at x.slots s.each_slot k.place)) (rw e (named_state _ (slot_in c vs) k.named)) a n p in
      every_set is_slot_sound x.slots _ (moved_slot a v) w s.each_slot

  each_kr : Yes x KR vs → EachSound (effect x KR vs (record_in KR vs) (slot_in KR vs))
  unfolding answered
  each_kr y = record { slots = slots_moved_lem KR y (known_at x.slots (slot_in KR vs) y.known) Loading refl refl; registers = s.each_register; marks = s.each_mark }

  each_kf : Yes x KF vs → EachSound (effect x KF vs (record_in KF vs) (slot_in KF vs))
  unfolding answered
  each_kf y = record {
    slots = slots_moved_lem KF y (known_at x.slots (slot_in KF vs) y.known) Idle refl refl;
    registers = every_map is_register_sound (closed_under (slot_in KF vs)) (under_sound (slot_in KF vs)) x.registers s.each_register;
    marks = every_map has_mark (closed_under (slot_in KF vs)) (under_mark (slot_in KF vs)) x.registers s.each_mark;
  }

  each_kl : Yes x KL vs → EachSound (effect x KL vs (record_in KL vs) (slot_in KL vs))
  unfolding answered
  each_kl y =
      let w = loaded_sound (card_in (record_in KL vs)) x.supplement.check (slot_in KL vs) (is_card_lem x vs y) (is_check x vs y) (is_name x vs y) in
      let m = loaded_mark (card_in (record_in KL vs)) x.supplement.check (slot_in KL vs) in
      record { slots = s.each_slot; registers = every_set is_register_sound x.registers _ _ w s.each_register; marks = every_set has_mark x.registers _ _ m s.each_mark }

  each_kx : Yes x KX vs → EachSound (effect x KX vs (record_in KX vs) (slot_in KX vs))
  unfolding answered slots_without
  each_kx y = record {
    slots = every_set is_slot_sound x.slots _ free_slot free_sound s.each_slot;
    registers = every_map is_register_sound (without_slot (slot_in KX vs)) (without_sound (slot_in KX vs)) x.registers s.each_register;
    marks = every_map has_mark (without_slot (slot_in KX vs)) (without_mark (slot_in KX vs)) x.registers s.each_mark;
  }

  each_kd : Yes x KD vs → EachSound (effect x KD vs (record_in KD vs) (slot_in KD vs))
  unfolding answered
  each_kd y = record {
    slots = s.each_slot;
    registers = every_set is_register_sound x.registers _ free_register free_register_sound s.each_register;
    marks = every_set has_mark x.registers _ free_register free_mark s.each_mark;
  }

each_effect : (x : Call) (c : Command) (vs : List Value) → SoundTables x.slots x.registers → Yes x c vs → EachSound (effect x c vs (record_in c vs) (slot_in c vs))
unfolding answered
each_effect x RS vs s y = each_rs x vs s y
each_effect x KC vs s y = each_kc x vs s y
each_effect x KR vs s y = each_kr x vs s y
each_effect x KL vs s y = each_kl x vs s y
each_effect x KF vs s y = each_kf x vs s y
each_effect x KX vs s y = each_kx x vs s y
each_effect x KD vs s y = each_kd x vs s y
each_effect x GA vs s y = record { slots = s.each_slot; registers = s.each_register; marks = s.each_mark }
each_effect x GL vs s y = record { slots = s.each_slot; registers = s.each_register; marks = s.each_mark }
each_effect x KQ vs s y = record { slots = s.each_slot; registers = s.each_register; marks = s.each_mark }
each_effect x Unknown vs s y = let z = y.header in nope (cc)

each_answer : (x : Call) → SoundTables x.slots x.registers → EachSound (answer_of x)
unfolding answer_of refused
each_answer x s = go (first_no (questions x)) refl
  where
    go : (o : Option Refusal) → first_no (questions x) ≡ o → EachSound (answer_to x o (command_in x.request) (fields_in x.request))
    go (some r) e = record { slots = s.each_slot; registers = s.each_register; marks = s.each_mark }
    go none e = each_effect x (command_in x.request) (fields_in x.request) s (yes_of x e)

-- THE THEOREM: sound rows stay sound, so refusal 3 never follows from the engine's own doing
pub stays_sound : (x : Call) → are_sound x.slots x.registers ≡ true → are_sound (answer_of x).slots (answer_of x).registers ≡ true
stays_sound x h =
    let s = sound_from x.slots x.registers h in
    let e = each_answer x s in
    let m = moves x in
    sound_to (answer_of x).slots (answer_of x).registers (record {
      each_slot = e.slots;
      each_register = e.registers;
      each_mark = e.marks;
      together = sound_step (tables_of x.slots x.registers) m.0 (tables_of (answer_of x).slots (answer_of x).registers) m.1 s.together;
      busy = busy_step (tables_of x.slots x.registers) m.0 (tables_of (answer_of x).slots (answer_of x).registers) m.1 s.together s.busy;
    })

-- FROM EMPTY TABLES ON
abbrev pub AreSound : Lent → Type 0
AreSound t = are_sound t.slots t.registers ≡ true

pub empty_sound : (a b : ℕ) → AreSound (empty_rows a b)
unfolding empty_rows
empty_sound a b = sound_to (replicate a free_slot) (replicate b free_register) (record {
  each_slot = every_replicate is_slot_sound a free_slot free_sound;
  each_register = every_replicate is_register_sound b free_register free_register_sound;
  each_mark = every_replicate has_mark b free_register free_mark;
  together = rw (starts_empty a b) (sound_empty a b);
  busy = rw (starts_empty a b) (busy_empty a b);
})

-- the rows are sound after every list of calls
pub never_unsound : (a b : ℕ) (calls : List Input) → AreSound (finally rows_after item_at (empty_rows a b) calls)
never_unsound a b calls = inv_finally rows_after item_at AreSound (λ t e h. stays_sound (call_of t e) h) (empty_rows a b) calls (empty_sound a b)

-- refusal 3 is answered only where the rows that are handed in are not sound,
abbrev is_three : Refusal → Bool
is_three r = eqb (refusal r).number 3

pub refused_unsound : (x : Call) → (answer_of x).outcome ≡ Refused UnsoundRows → are_sound x.slots x.registers ≢ true
unfolding questions
refused_unsound x e h = let w = held_not is_three (questions x) UnsoundRows (rw h refl) (refused_by x UnsoundRows e) in nope (cc)

-- so no call e, after any calls before it, is answered by it
pub never_refused : (a b : ℕ) (before : List Input) (e : Input) → (answer_of (call_of (finally rows_after item_at (empty_rows a b) before) e)).outcome ≢ Refused UnsoundRows
never_refused a b before e r = refused_unsound (call_of (finally rows_after item_at (empty_rows a b) before) e) r (never_unsound a b before)
