-- The slot state that an accepted session command's answer carries is the state of its slot's row afterwards; and just these answers carry one.
use mathlib.Core.Path.{◌≡◌, refl, ap}
use mathlib.Core.Bool.{Bool, true, false, cond, not, ◌&&◌, ◌||◌}
use mathlib.Core.List.{List, [], ◌∷◌}
use mathlib.Core.Option.{Option, none, some}
use Prim.Native.Nat.{ℕ, zero, suc, ◌+◌, ◌<◌}
use native.Mathlib.Omega.{arith}
use lib.Dec.{eqb}
use lib.ListN.{length, get_or, set}
use lib.Seq.{get_or-set_same}
use Rattle.byte_strings.proofs.Flags.{nope, and_first, and_second, no, holds}
use Rattle.byte_strings.proofs.StringLaws.{same_self}
use Rattle.text_classes.specs.Identifiers.{is_identifier}
use Rattle.field_values.specs.Values.{Value}
use Rattle.record_identities.specs.Identities.{name_in, fingerprint_in}
use Rattle.record_types.specs.KeyRecords.{public_key_in_form}
use Rattle.message_commands.specs.declared.Command.{Command}
use Rattle.message_commands.specs.declared.Command.TheVariants.{RS, KC, KR, KL, KF, KX, KD, GA, GL, KQ, Unknown}
use Rattle.row_types.specs.Lists.{some_row, every_row, distinct_rows, first_from}
use Rattle.row_types.specs.Slots.{state_number, has_state, kmcid_of, is_named, is_slot_sound, is_same_slot, free_slot, filled_slot, moved_slot}
use Rattle.row_types.specs.Sound.{are_sound}
use Rattle.row_types.specs.declared.SlotRow.{SlotRow}
use Rattle.row_types.specs.declared.SlotState.{SlotState}
use Rattle.row_types.specs.declared.SlotState.TheVariants.{Free, Pending, Loading, Idle}
use Rattle.row_types.proofs.ListLaws.{trimmed_padded, trimmed_all}
use Rattle.engine.specs.Requests.{is_among, command_in, fields_in, record_in, kmc_identity_in, slot_in, first_text}
use Rattle.engine.specs.Questions.{Call, slot_place, free_place, place_else, session_place, slot_named, questions, first_no}
use Rattle.engine.specs.Answers.{slots_moved, slots_pending, slots_without, answered, effect, refused, answer_to, answer_of}
use Rattle.engine.specs.declared.Refusal.{Refusal}
use Rattle.engine.specs.declared.Outcome.{Outcome}
use Rattle.engine.specs.declared.Outcome.TheVariants.{Accepted, Done, Refused}
use Rattle.engine.proofs.RowWords.{identifier_short, identifier_plain, named_state, named_name, sound_name, one_name_lem}
use Rattle.engine.proofs.Places.{KnownAt, known_at, sound_at, free_unnamed, spot_at}
use Rattle.engine.proofs.AnswerLaws.{is_yes}
use Rattle.engine.proofs.Steps.{Yes, yes_of, slots_sound, row_is, identity_name, key_identity}

-- SEARCHES AFTER A STORE. Where no row before place p passes, a row that is stored there and passes is the first
module _ {A : Type 0} (f : A → Bool) where
  first_set : (l : List A) (i p : ℕ) (v : A) → f v ≡ true → place_else (first_from f i l) (some (i + p)) ≡ some (i + p) → p < length l → first_from f i (set l p v) ≡ some (i + p)
  first_set [] i p v y e b = absurd (omega arith)
  first_set (x ∷ xs) i zero v y e b = rw y (ap some (omega arith))
  first_set (x ∷ xs) i (suc p) v y e b = go (f x) e (first_set xs (i + 1) p v y)
    where
      z : i + suc p ≡ i + 1 + p
      z = omega arith

      go : (t : Bool) → place_else (cond t (some i) (first_from f (i + 1) xs)) (some (i + suc p)) ≡ some (i + suc p)
          → (place_else (first_from f (i + 1) xs) (some (i + 1 + p)) ≡ some (i + 1 + p) → p < length xs → first_from f (i + 1) (set xs p v) ≡ some (i + 1 + p))
          → cond t (some i) (first_from f (i + 1) (set xs p v)) ≡ some (i + suc p)
      go true w more = let q : i ≡ i + suc p = cc in absurd (omega arith)
      go false w more = rw z (more (rw z at w) (omega arith))

  -- where no two rows are alike, and rows that pass are alike, none passes after the only one is taken away
  module _ (alike : A → A → Bool) (joined : (a b : A) → f a ≡ true → f b ≡ true → alike a b ≡ true) (d : A) (bare : f d ≡ false) where
    none_else : (x : A) → f x ≡ true → (l : List A) (i : ℕ) → some_row (alike x) l ≡ false → first_from f i l ≡ none
    none_else x y [] i e = refl
    none_else x y (v ∷ l) i e = go (f v) refl (none_else x y l (i + 1))
      where
        go : (t : Bool) → f v ≡ t → (some_row (alike x) l ≡ false → first_from f (i + 1) l ≡ none) → cond t (some i) (first_from f (i + 1) l) ≡ none
        go true q more = let w = joined x v y q in nope (cc)
        go false q more = more (tail (alike x v) e)
          where
            tail : (b : Bool) → (b || some_row (alike x) l) ≡ false → some_row (alike x) l ≡ false
            tail true w = nope (cc)
            tail false w = w

    none_left : (l : List A) (i p : ℕ) → first_from f i l ≡ some (i + p) → f (get_or l p d) ≡ true → distinct_rows alike l ≡ true → first_from f i (set l p d) ≡ none
    none_left [] i p e y h = refl
    none_left (x ∷ xs) i zero e y h =
        rw bare (none_else x y xs (i + 1) (no (some_row (alike x) xs) (holds (not (some_row (alike x) xs)) (and_first (not (some_row (alike x) xs)) _ h))))
    none_left (x ∷ xs) i (suc p) e y h = go (f x) e (none_left xs (i + 1) p)
      where
        z : i + suc p ≡ i + 1 + p
        z = omega arith

        go : (t : Bool) → cond t (some i) (first_from f (i + 1) xs) ≡ some (i + suc p)
            → (first_from f (i + 1) xs ≡ some (i + 1 + p) → f (get_or xs p d) ≡ true → distinct_rows alike xs ≡ true → first_from f (i + 1) (set xs p d) ≡ none)
            → cond t (some i) (first_from f (i + 1) (set xs p d)) ≡ none
        go true w more = let q : i ≡ i + suc p = cc in absurd (omega arith)
        go false w more = more (rw z at w) y (and_second (not (some_row (alike x) xs)) _ h)

past_rows : {A : Type 0} (d : A) (l : List A) → get_or l (length l) d ≡ d
past_rows d [] = refl
past_rows d (x ∷ xs) = past_rows d xs

-- THE ROW OF A SLOT after a store at its place
module _ (slots : List SlotRow) (s : List ℕ) (p : ℕ) (b : p < length slots) where
  start : 0 + p ≡ p
  start = omega arith

  stored_row : place_else (slot_place s slots) (some p) ≡ some p → (v : SlotRow) → is_named s v ≡ true → slot_named s (set slots p v) ≡ v
  unfolding slot_named
  stored_row e v y = rw (rw start at (first_set (is_named s) slots 0 p v y (rw start e) b)) (get_or-set_same slots p v free_slot b)

  freed_row : slot_place s slots ≡ some p → is_named s (get_or slots p free_slot) ≡ true → distinct_rows is_same_slot slots ≡ true → slot_named s (set slots p free_slot) ≡ free_slot
  unfolding slot_named
  freed_row e y h = rw (none_left (is_named s) is_same_slot (one_name_lem s) free_slot (free_unnamed s) slots 0 p (rw start e) y h) (past_rows free_slot (set slots p free_slot))

-- a row that is made for a name, or moved, keeps it
filled_named : (a : SlotState) (s f t : List ℕ) → eqb (state_number a) 0 ≡ false → is_identifier s ≡ true → is_named s (filled_slot a s f t) ≡ true
unfolding is_named filled_slot
filled_named a s f t o i =
    let z = trimmed_all s (identifier_plain s i) in
    rw (o, trimmed_padded 40 s (rw z (identifier_short s i)), z) (same_self s)

moved_named : (a : SlotState) (v : SlotRow) (s : List ℕ) → eqb (state_number a) 0 ≡ false → is_slot_sound v ≡ true → is_named s v ≡ true → is_named s (moved_slot a v) ≡ true
unfolding is_named filled_slot
moved_named a v s o h y =
    rw (o, trimmed_padded 40 v.kmcid (identifier_short (kmcid_of v) (sound_name v h (named_state v s y))), named_name v s y) (same_self s)

-- and is in the state that it was made in
filled_state : (a : SlotState) (s f t : List ℕ) → has_state a (filled_slot a s f t) ≡ true
unfolding filled_slot
filled_state Free s f t = refl
filled_state Pending s f t = refl
filled_state Loading s f t = refl
filled_state Idle s f t = refl

free_state : has_state Free free_slot ≡ true
unfolding free_slot
free_state = refl

own_else : (o f : Option ℕ) (p : ℕ) → place_else o f ≡ some p → place_else o (some p) ≡ some p
own_else none f p e = refl
own_else (some i) f p e = e

distinct_slots : (x : Call) (c : Command) (vs : List Value) → Yes x c vs → distinct_rows is_same_slot x.slots ≡ true
unfolding are_sound
distinct_slots x c vs y = and_first (distinct_rows is_same_slot x.slots) _ (and_second (every_row is_slot_sound x.slots) _ y.sound)

-- EACH SESSION COMMAND
abbrev Leaves : SlotState → List ℕ → List SlotRow → Type 0
Leaves a s slots = has_state a (slot_named s slots) ≡ true

module _ (x : Call) (vs : List Value) where
  leaves_kc : Yes x KC vs → Leaves Pending (slot_in KC vs) (effect x KC vs (record_in KC vs) (slot_in KC vs)).slots
  unfolding answered slots_pending record_in slot_in session_place
  leaves_kc y =
      let q = kmc_identity_in (first_text vs) in
      let p = spot_at x.slots x.registers (name_in q) (slots_sound x KC vs y) y.spot in
      let i = identity_name q (key_identity (first_text vs) (and_first (public_key_in_form (first_text vs)) _ y.form)) in
      let v = filled_slot Pending (name_in q) (fingerprint_in q) x.supplement.clock in
      let e = own_else (slot_place (name_in q) x.slots) (free_place x.slots) p.place p.is in
      let w = stored_row x.slots (name_in q) p.place p.within e v (filled_named Pending (name_in q) (fingerprint_in q) x.supplement.clock refl i) in
      rw (p.is, w) (filled_state Pending (name_in q) (fingerprint_in q) x.supplement.clock)

  -- SM?KR and SM?KF
  leaves_moved : (c : Command) (y : Yes x c vs) → KnownAt x.slots (slot_in c vs) → (a : SlotState) → eqb (state_number a) 0 ≡ false → Leaves a (slot_in c vs) (slots_moved a (slot_in c vs) x.slots)
  leaves_moved c y k a o =
      let v = get_or x.slots k.place free_slot in
      let m = moved_named a v (slot_in c vs) o (sound_at x.slots (slots_sound x c vs y) k.place) k.named in
      let w = stored_row x.slots (slot_in c vs) k.place k.within (rw k.is refl) (moved_slot a v) m in
      rw (row_is x c vs y k, k.is, w) (filled_state a v.kmcid v.fingerprint [])

  leaves_kx : Yes x KX vs → Leaves Free (slot_in KX vs) (slots_without (slot_in KX vs) x.slots)
  unfolding slots_without
  leaves_kx y =
      let s = slot_in KX vs in
      let k = known_at x.slots s y.known in
      rw (k.is, freed_row x.slots s k.place k.within k.is k.named (distinct_slots x KX vs y)) free_state

  leaves_effect : (c : Command) → Yes x c vs → (a : SlotState) → (effect x c vs (record_in c vs) (slot_in c vs)).outcome ≡ Accepted a
      → Leaves a (slot_in c vs) (effect x c vs (record_in c vs) (slot_in c vs)).slots
  unfolding answered
  leaves_effect RS y a e = nope (cc)
  leaves_effect KC y a e = let z : Pending ≡ a = cc in rw (← z) (leaves_kc y)
  leaves_effect KR y a e = let z : Loading ≡ a = cc in rw (← z) (leaves_moved KR y (known_at x.slots (slot_in KR vs) y.known) Loading refl)
  leaves_effect KL y a e = let z : Loading ≡ a = cc in rw (← z) (and_first (has_state Loading (slot_named (slot_in KL vs) x.slots)) _ y.state)
  leaves_effect KF y a e = let z : Idle ≡ a = cc in rw (← z) (leaves_moved KF y (known_at x.slots (slot_in KF vs) y.known) Idle refl)
  leaves_effect KX y a e = let z : Free ≡ a = cc in rw (← z) (leaves_kx y)
  leaves_effect KD y a e = nope (cc)
  leaves_effect GA y a e = nope (cc)
  leaves_effect GL y a e = nope (cc)
  leaves_effect KQ y a e = nope (cc)
  leaves_effect Unknown y a e = nope (cc)

-- the answer carries a slot state
abbrev pub carries_state : Outcome → Bool
carries_state (Accepted a) = true
carries_state Done = false
carries_state (Refused r) = false

-- the five session commands
abbrev pub is_session : Command → Bool
is_session c = is_among c (KC ∷ KR ∷ KL ∷ KF ∷ KX ∷ [])

effect_carries : (x : Call) (c : Command) (vs : List Value) (r s : List ℕ) → carries_state (effect x c vs r s).outcome ≡ (is_yes (effect x c vs r s).outcome && is_session c)
unfolding answered
effect_carries x RS vs r s = refl
effect_carries x KC vs r s = refl
effect_carries x KR vs r s = refl
effect_carries x KL vs r s = refl
effect_carries x KF vs r s = refl
effect_carries x KX vs r s = refl
effect_carries x KD vs r s = refl
effect_carries x GA vs r s = refl
effect_carries x GL vs r s = refl
effect_carries x KQ vs r s = refl
effect_carries x Unknown vs r s = refl

module _ (x : Call) where
  abbrev c : Command
  c = command_in x.request

  abbrev vs : List Value
  vs = fields_in x.request

  -- THE STATE that an answer carries is that of its slot's row afterwards: free after SM?KX, where no row keeps the name
  pub state_left : (a : SlotState) → (answer_of x).outcome ≡ Accepted a → Leaves a (slot_in c vs) (answer_of x).slots
  unfolding answer_of refused
  state_left a e = go (first_no (questions x)) refl e
    where
      go : (o : Option Refusal) → first_no (questions x) ≡ o → (answer_to x o c vs).outcome ≡ Accepted a → Leaves a (slot_in c vs) (answer_to x o c vs).slots
      go (some r) q w = nope (cc)
      go none q w = leaves_effect x vs c (yes_of x q) a w

  -- an answer carries a state exactly where a session command is accepted
  pub state_carried : carries_state (answer_of x).outcome ≡ (is_yes (answer_of x).outcome && is_session c)
  unfolding answer_of refused
  state_carried = go (first_no (questions x))
    where
      go : (o : Option Refusal) → carries_state (answer_to x o c vs).outcome ≡ (is_yes (answer_to x o c vs).outcome && is_session c)
      go (some r) = refl
      go none = effect_carries x c vs (record_in c vs) (slot_in c vs)
