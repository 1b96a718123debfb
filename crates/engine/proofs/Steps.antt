-- Each answer of the engine is one of the steps of which demand 3 is proved.
use mathlib.Core.Path.{◌≡◌, refl, ap, ◌∙◌}
use mathlib.Core.Logic.{◌≢◌}
use mathlib.Core.Bool.{Bool, true, false, cond, not, ◌||◌}
use mathlib.Core.List.{List, [], ◌∷◌, map}
use mathlib.Core.Option.{Option, none, some}
use Prim.Native.Nat.{ℕ, zero, suc, ◌+◌, ◌-◌, ◌≤◌}
use native.Mathlib.Omega.{arith}
use native.Mathlib.Numerals.{add-one}
use lib.Dec.{eqb, leb}
use lib.ListN.{length, get_or, set, length-map}
use borrow.Author.Tests.{leb-true, le-leb, eqb-true}
use Rattle.byte_strings.proofs.Flags.{nope, and_first, and_second, no, holds}
use Rattle.text_classes.specs.Classes.{are_all}
use Rattle.text_timestamps.specs.Timestamps.{is_timestamp}
use Rattle.text_classes.specs.Identifiers.{is_identifier}
use Rattle.text_classes.specs.declared.Class.TheVariants.{Text}
use Rattle.text_decimals.specs.Decimals.{is_number, is_unpadded}
use Rattle.field_values.specs.Values.{Value, number, string, are_values}
use Rattle.text_forms.specs.Forms.{in_form}
use Rattle.text_forms.specs.declared.Form.TheVariants.{Hex, HexSome}
use Rattle.message_frames.specs.Frames.{is_whole, header_of}
use Rattle.message_replies.specs.Responses.{reply_to, response_bytes, fields_of}
use Rattle.message_replies.proofs.ResponseLaws.{reply_fields_lem, answered_five}
use Rattle.card_incoming.specs.Incoming.{is_incoming}
use Rattle.card_stored.specs.Stored.{load_values}
use Rattle.record_parser.specs.Records.{field}
use Rattle.record_identities.specs.Identities.{colon, name_in, fingerprint_in, identity_in_form}
use Rattle.record_types.specs.KeyRecords.{bar, public_key_in_form, key_in_form}
use Rattle.card_stored.specs.Stored.{in_row}
use Rattle.card_laws.proofs.Incoming.{stored_text, stored_short}
use Rattle.message_commands.specs.declared.Command.{Command}
use Rattle.message_commands.specs.declared.Command.TheVariants.{RS, KC, KR, KL, KF, KX, KD, GA, GL, KQ, Unknown}
use Rattle.card_attributes.specs.Table.{SGC, KRN, KSL}
use Rattle.row_types.specs.Lists.{every_row}
use Rattle.row_types.specs.Slots.{state_number, has_state, is_slot_sound, free_slot, filled_slot, moved_slot, reset_slot}
use Rattle.row_types.specs.Registers.{is_vacant, attribute_of, is_open, free_register, filled_register, without_slot, closed_row, closed_under}
use Rattle.row_types.specs.Sound.{are_sound}
use Rattle.row_types.specs.Supplements.{is_well_formed, is_identity_right, is_load_request_right}
use Rattle.row_types.specs.declared.SlotRow.{SlotRow}
use Rattle.row_types.specs.declared.RegisterRow.{RegisterRow}
use Rattle.row_types.specs.declared.SlotState.{SlotState}
use Rattle.row_types.specs.declared.SlotState.TheVariants.{Pending, Loading, Idle}
use Rattle.row_types.proofs.ListLaws.{map_set, map_sweep, every_true}
use Rattle.history.specs.Model.{pending, loading, idle, used, free, Register, key, kl, loaded, Item, ◌⇒◌, drop_key, drop_slot, close_key, finish, close_any, stopped, reset}
use Rattle.history.specs.Step.{Step, refuses, reads, starts, opens, loads, closes, deletes_slot, deletes_key, resets}
use Rattle.engine.specs.Requests.{command_in, fields_in, is_one_of_ten, are_fields_of, register_in, record_in, kmc_identity_in, slot_in, card_in, first_text}
use Rattle.engine.specs.Questions.{Call, asked, are_counts, is_record_in_form, is_state_right, is_place, slot_place, session_place, store_place, slot_named, place_in, is_filled, group_in, revision_in, questions, first_no}
use Rattle.engine.specs.Answers.{Answer, response, accepted, slots_moved, slots_pending, slots_without, loaded_card, card_place, answered, effect, answer_to, answer_of}
use Rattle.engine.specs.Answers as answers
use Rattle.engine.specs.Words.{state_in, slot_is, register_is, tables_of, request_of, item_for, is_accepted}
use Rattle.engine.specs.declared.Refusal.{Refusal}
use Rattle.engine.proofs.RowWords.{free_reads, slot_row_lem, named_state, named_name, named_reads, sound_name, moved_reads, reset_reads, filled_reads, free_register_reads, filled_key, register_row_lem, without_reads, closed_any, closed_under_lem, loaded_reads}
use Rattle.engine.proofs.QuestionLaws.{AllYes, all_yes}
use Rattle.engine.proofs.AnswerWords.{header_five, accepted_said, refusal_said}
use Rattle.engine.proofs.Places.{KnownAt, known_at, sound_at, spot_at, HomeAt, home_at}

-- the rows after an answer are those after a step of the item
abbrev pub Moves : Call → Item → Answer → Type 0
Moves x ι a = Step (tables_of x.slots x.registers) ι (tables_of a.slots a.registers)

-- an answer to a call with the command c and the fields vs is a step
abbrev pub IsStep : Call → Command → List Value → Answer → Type 0
IsStep x c vs a = Moves x (item_for (request_of c vs) (response a)) a

-- what is known of an accepted request
pub record Yes (x : Call) (c : Command) (vs : List Value) : Type 0 where
  pub counts : are_counts x.slot_count x.register_count ≡ true
  pub room : leb 1024 x.room ≡ true
  pub sound : are_sound x.slots x.registers ≡ true
  pub supplement : is_well_formed x.supplement ≡ true
  pub whole : is_whole x.request ≡ true
  pub header : is_one_of_ten c ≡ true
  pub fields : are_fields_of c vs ≡ true
  pub form : is_record_in_form c (record_in c vs) ≡ true
  pub known : asked (KR ∷ KL ∷ KF ∷ KX ∷ KQ ∷ []) c (is_place (slot_place (slot_in c vs) x.slots)) ≡ true
  pub spot : asked (KC ∷ []) c (is_place (session_place (slot_in c vs) x.slots)) ≡ true
  pub state : is_state_right c (slot_named (slot_in c vs) x.slots) ≡ true
  pub home : asked (KL ∷ []) c (is_place (store_place (group_in (card_in (record_in c vs))) (revision_in (card_in (record_in c vs))) x.registers)) ≡ true
  pub filled : asked (GA ∷ KD ∷ []) c (is_filled (register_in vs) x.registers) ≡ true

pub yes_of : (x : Call) → first_no (questions x) ≡ none → Yes x (command_in x.request) (fields_in x.request)
unfolding questions
yes_of x e =
    let y : AllYes (questions x) = all_yes (questions x) e in
    record {
      counts = y.0;
      room = y.1.0;
      sound = y.1.1.0;
      supplement = y.1.1.1.0;
      whole = y.1.1.1.1.0;
      header = y.1.1.1.1.1.1.0;
      fields = y.1.1.1.1.1.1.1.0;
      form = y.1.1.1.1.1.1.1.1.1.0;
      known = y.1.1.1.1.1.1.1.1.1.1.1.0;
      spot = y.1.1.1.1.1.1.1.1.1.1.1.1.0;
      state = y.1.1.1.1.1.1.1.1.1.1.1.1.1.0;
      home = y.1.1.1.1.1.1.1.1.1.1.1.1.1.1.1.1.1.1.1.0;
      filled = y.1.1.1.1.1.1.1.1.1.1.1.1.1.1.1.1.1.1.1.1.0;
    }

-- a refusal
refused_step : (x : Call) (c : Command) (vs : List Value) (r : Refusal) → first_no (questions x) ≡ some r → IsStep x c vs (answers.refused x r)
unfolding answers.refused
refused_step x c vs r e = rw (refusal_said x r e) (refuses (request_of c vs))

pub slots_sound : (x : Call) (c : Command) (vs : List Value) → Yes x c vs → every_row is_slot_sound x.slots ≡ true
unfolding are_sound
slots_sound x c vs y = and_first (every_row is_slot_sound x.slots) _ y.sound

-- status 00 under the request's header
says_yes_lem : (x : Call) (c : Command) (vs : List Value) → Yes x c vs → (fields : List Value) → is_accepted (response_bytes (header_of x.request) accepted fields) ≡ true
says_yes_lem x c vs y fields = accepted_said (header_of x.request) fields (header_five x.request y.whole)

-- the row of a slot that is known
module _ (x : Call) (c : Command) (vs : List Value) (y : Yes x c vs) (k : KnownAt x.slots (slot_in c vs)) where
  abbrev s : List ℕ
  s = slot_in c vs

  abbrev pub v : SlotRow
  v = get_or x.slots k.place free_slot

  pub row_sound : is_slot_sound v ≡ true
  row_sound = sound_at x.slots (slots_sound x c vs y) k.place

  row_reads : get_or (map slot_is x.slots) k.place free ≡ used s (state_in v.state)
  row_reads = slot_row_lem x.slots k.place ∙ named_reads v s k.named

  pub row_is : slot_named s x.slots ≡ v
  unfolding slot_named
  row_is = rw k.is refl

  pub row_identifier : is_identifier s ≡ true
  row_identifier = rw (named_name v s k.named) at (sound_name v row_sound (named_state v s k.named))

  -- moved to another state
  slots_moved_lem : (a : SlotState) → eqb (state_number a) 0 ≡ false → map slot_is (slots_moved a s x.slots) ≡ set (map slot_is x.slots) k.place (used s (state_in (state_number a)))
  slots_moved_lem a o =
      let m = moved_reads v row_sound a o (named_state v s k.named) in
      let n = named_name v s k.named in
      rw (row_is, k.is, map_set slot_is x.slots k.place (moved_slot a v), m, n) refl

  slots_without_lem : map slot_is (slots_without s x.slots) ≡ set (map slot_is x.slots) k.place free
  unfolding slots_without
  slots_without_lem = rw (k.is, map_set slot_is x.slots k.place free_slot, free_reads) refl

-- the KMCID of a public key in form
pub identity_name : (q : List ℕ) → identity_in_form q ≡ true → is_identifier (name_in q) ≡ true
unfolding identity_in_form
identity_name q e = and_first (is_identifier (name_in q)) _ (and_second (is_identifier (field colon 1 q)) _ e)

pub key_identity : (r : List ℕ) → public_key_in_form r ≡ true → identity_in_form (kmc_identity_in r) ≡ true
unfolding public_key_in_form
key_identity r e = and_first (identity_in_form (kmc_identity_in r)) _ e

kc_step : (x : Call) (vs : List Value) → Yes x KC vs → IsStep x KC vs (effect x KC vs (record_in KC vs) (slot_in KC vs))
unfolding answered slots_pending record_in slot_in
kc_step x vs y =
    let q = kmc_identity_in (first_text vs) in
    let p = spot_at x.slots x.registers (name_in q) (slots_sound x KC vs y) y.spot in
    let i = identity_name q (key_identity (first_text vs) (and_first (public_key_in_form (first_text vs)) _ y.form)) in
    let w = filled_reads Pending (name_in q) (fingerprint_in q) x.supplement.clock refl i in
    let m = map_set slot_is x.slots p.place (filled_slot Pending (name_in q) (fingerprint_in q) x.supplement.clock) in
    rw (says_yes_lem x KC vs y, p.is, m, w) (starts (name_in q) p.place (rw length-map p.within) p.spot)

kr_step : (x : Call) (vs : List Value) → Yes x KR vs → IsStep x KR vs (effect x KR vs (record_in KR vs) (slot_in KR vs))
unfolding answered
kr_step x vs y =
    let k = known_at x.slots (slot_in KR vs) y.known in
    let w : eqb (v x KR vs y k).state 1 ≡ true = rw (row_is x KR vs y k) at (and_first (has_state Pending (slot_named (slot_in KR vs) x.slots)) _ y.state) in
    let e : get_or (map slot_is x.slots) k.place free ≡ used (slot_in KR vs) pending = row_reads x KR vs y k ∙ rw w refl in
    rw (says_yes_lem x KR vs y, slots_moved_lem x KR vs y k Loading refl) (opens (slot_in KR vs) k.place e)

-- a state that is PENDING or LOADING is not IDLE
pub not_idle : (n : ℕ) → (eqb n 1 || eqb n 2) ≡ true → state_in n ≢ idle
not_idle n h e = go (eqb n 1) (eqb n 2) h e
  where
    go : (p q : Bool) → (p || q) ≡ true → cond p pending (cond q loading idle) ≡ idle → ⊥
    go true q w z = nope (cc)
    go false true w z = nope (cc)
    go false false w z = nope (cc)

-- what the registers say after SM?KF, SM?KX and GL?RS, and the slots after GL?RS
module _ (x : Call) (vs : List Value) where
  swept : (f : RegisterRow → RegisterRow) (g : Register → Register) → ((r : RegisterRow) → register_is (f r) ≡ g (register_is r)) → map register_is (map f x.registers) ≡ map g (map register_is x.registers)
  swept f g h = map_sweep register_is (λ (r : RegisterRow). true) f g (λ r e. h r) x.registers (every_true x.registers)

  kf_registers : map register_is (effect x KF vs (record_in KF vs) (slot_in KF vs)).registers ≡ map (close_key (slot_in KF vs)) (map register_is x.registers)
  unfolding answered
  kf_registers = swept (closed_under (slot_in KF vs)) (close_key (slot_in KF vs)) (λ r. closed_under_lem r (slot_in KF vs))

  kx_registers : map register_is (effect x KX vs (record_in KX vs) (slot_in KX vs)).registers ≡ map (drop_key (slot_in KX vs)) (map register_is x.registers)
  unfolding answered
  kx_registers = swept (without_slot (slot_in KX vs)) (drop_key (slot_in KX vs)) (without_reads (slot_in KX vs))

  rs_registers : map register_is (effect x RS vs (record_in RS vs) (slot_in RS vs)).registers ≡ map close_any (map register_is x.registers)
  unfolding answered
  rs_registers = swept closed_row close_any closed_any

kf_step : (x : Call) (vs : List Value) → Yes x KF vs → IsStep x KF vs (effect x KF vs (record_in KF vs) (slot_in KF vs))
unfolding answered finish
kf_step x vs y =
    let k = known_at x.slots (slot_in KF vs) y.known in
    let w : (has_state Pending (v x KF vs y k) || has_state Loading (v x KF vs y k)) ≡ true = rw (row_is x KF vs y k) at y.state in
    rw (says_yes_lem x KF vs y, slots_moved_lem x KF vs y k Idle refl, kf_registers x vs) (closes (slot_in KF vs) k.place _ (not_idle (v x KF vs y k).state w) (row_reads x KF vs y k))

rs_slots : (x : Call) (vs : List Value) → Yes x RS vs → map slot_is (effect x RS vs (record_in RS vs) (slot_in RS vs)).slots ≡ map stopped (map slot_is x.slots)
unfolding answered
rs_slots x vs y = map_sweep slot_is is_slot_sound reset_slot stopped reset_reads x.slots (slots_sound x RS vs y)

kx_step : (x : Call) (vs : List Value) → Yes x KX vs → IsStep x KX vs (effect x KX vs (record_in KX vs) (slot_in KX vs))
unfolding answered drop_slot
kx_step x vs y =
    let k = known_at x.slots (slot_in KX vs) y.known in
    rw (says_yes_lem x KX vs y, slots_without_lem x KX vs y k, kx_registers x vs) (deletes_slot (slot_in KX vs) k.place _ (row_reads x KX vs y k))

rs_step : (x : Call) (vs : List Value) → Yes x RS vs → IsStep x RS vs (effect x RS vs (record_in RS vs) (slot_in RS vs))
unfolding answered reset
rs_step x vs y = rw (says_yes_lem x RS vs y, rs_slots x vs y, rs_registers x vs) resets

-- a key that is loaded: the rows after it
module _ (x : Call) (vs : List Value) (y : Yes x KL vs) where
  abbrev pub name : List ℕ
  name = slot_in KL vs

  abbrev pub card : List ℕ
  card = card_in (record_in KL vs)

  abbrev pub stored : List ℕ
  stored = loaded_card card x.supplement.check name

  slot_at : KnownAt x.slots name
  slot_at = known_at x.slots name y.known

  pub register_at_lem : HomeAt x.slots x.registers (group_in card) (revision_in card)
  register_at_lem = home_at x.slots x.registers (group_in card) (revision_in card) y.home

  pub is_name : is_identifier name ≡ true
  is_name = row_identifier x KL vs y slot_at

  pub is_card_lem : is_incoming card ≡ true
  unfolding key_in_form
  is_card_lem = and_first (is_incoming card) _ (and_second (in_form HexSome (field bar 1 (record_in KL vs))) _ y.form)

  pub is_check : in_form (Hex 6) x.supplement.check ≡ true
  unfolding is_well_formed
  is_check =
      let z = x.supplement in
      and_first (in_form (Hex 6) z.check) _ (and_second (in_form (Hex 48) z.tag) _ (and_second (is_load_request_right z) _ (and_second (is_identity_right z) _ (and_second (is_timestamp z.clock) _ y.supplement))))

  pub is_text_lem : are_all Text stored ≡ true
  unfolding loaded_card are_all is_number is_unpadded
  is_text_lem = stored_text card is_card_lem (load_values x.supplement.check name) refl is_check is_name refl

  pub is_short_lem : length stored ≤ 256
  unfolding loaded_card are_all is_number is_unpadded
  is_short_lem = stored_short card is_card_lem (load_values x.supplement.check name) refl is_check is_name refl

  is_reading : register_is (filled_register stored) ≡ key (group_in card) (revision_in card) name (in_row stored) (record { is_open = true })
  unfolding loaded_card
  is_reading = loaded_reads card x.supplement.check name is_card_lem is_check is_name

  kl_registers : map register_is (effect x KL vs (record_in KL vs) name).registers ≡ set (map register_is x.registers) register_at_lem.place (key (group_in card) (revision_in card) name (in_row stored) (record { is_open = true }))
  unfolding answered card_place
  kl_registers =
      ap (λ (o : Option ℕ). map register_is (set x.registers (place_in x.registers o) (filled_register stored))) register_at_lem.is
      ∙ map_set register_is x.registers register_at_lem.place (filled_register stored)
      ∙ ap (set (map register_is x.registers) register_at_lem.place) is_reading

  -- the step, whatever the reply can say
  abbrev loading_step : Item
  loading_step = kl name (group_in card) (revision_in card) ⇒ loaded (suc register_at_lem.place) (in_row stored)

  steps_kl : Moves x loading_step (effect x KL vs (record_in KL vs) name)
  unfolding answered card_place
  steps_kl =
      let i = register_at_lem.place in
      let w : eqb (v x KL vs y slot_at).state 2 ≡ true = rw (row_is x KL vs y slot_at) at (and_first (has_state Loading (slot_named name x.slots)) _ y.state) in
      let o : eqb (v x KL vs y slot_at).state 1 ≡ false = rw (eqb-true (v x KL vs y slot_at).state 2 w) refl in
      let e : get_or (map slot_is x.slots) slot_at.place free ≡ used name loading = row_reads x KL vs y slot_at ∙ rw (o, w) refl in
      rw kl_registers
      (loads name (group_in card) (revision_in card) (in_row stored) slot_at.place i e (rw length-map register_at_lem.within) register_at_lem.home)

  -- register and card of the reply
  abbrev pub load_fields : List Value
  load_fields = number (register_at_lem.place + 1) ∷ string stored ∷ []

  pub kl_reply : (effect x KL vs (record_in KL vs) name).reply ≡ some (reply_to (header_of x.request) accepted load_fields)
  unfolding answered card_place
  kl_reply =
      ap (λ (o : Option ℕ). some (reply_to (header_of x.request) accepted (number (place_in x.registers o + 1) ∷ string stored ∷ []))) register_at_lem.is

  -- read back, where the count is the rows'
  module _ (n : x.register_count ≡ length x.registers) where
    pub is_low : register_at_lem.place + 1 ≤ 2147483647
    unfolding are_counts
    is_low =
        let m = leb-true x.register_count 32 (and_second (leb 1 x.register_count) _ (and_second (leb x.slot_count 8) _ (and_second (leb 1 x.slot_count) _ y.counts))) in
        omega (arith, n, register_at_lem.within)

    pub load_values_lem : are_values load_fields ≡ true
    load_values_lem = rw (le-leb (register_at_lem.place + 1) 2147483647 is_low, is_text_lem) refl

    pub load_reads : fields_of (response_bytes (header_of x.request) accepted load_fields) ≡ load_fields
    load_reads = reply_fields_lem (reply_to (header_of x.request) accepted load_fields) (answered_five (header_of x.request) (header_five x.request y.whole)) refl load_values_lem

    kl_step : IsStep x KL vs (effect x KL vs (record_in KL vs) name)
    kl_step = rw (kl_reply, says_yes_lem x KL vs y, load_reads, add-one register_at_lem.place) steps_kl

-- a register that is deleted
module _ (x : Call) (vs : List Value) (y : Yes x KD vs) where
  kd_step_of : (n : ℕ) → register_in vs ≡ n → is_filled n x.registers ≡ true → IsStep x KD vs (effect x KD vs (record_in KD vs) (slot_in KD vs))
  unfolding answered is_filled
  kd_step_of zero e f = nope (cc)
  kd_step_of (suc i) e f =
      let m : suc i - 1 ≡ i = omega arith in
      let r = get_or x.registers i free_register in
      let g = rw m at (and_second (leb (suc i) (length x.registers)) _ (and_second (leb 1 (suc i)) _ f)) in
      let o : is_vacant r ≡ false = no (is_vacant r) (holds (not (is_vacant r)) g) in
      rw (says_yes_lem x KD vs y, e, m, map_set register_is x.registers i free_register, free_register_reads)
      (deletes_key i (attribute_of SGC r) (attribute_of KRN r) (attribute_of KSL r) r.card (record { is_open = is_open r }) (register_row_lem x.registers i ∙ filled_key r o))

  kd_step : IsStep x KD vs (effect x KD vs (record_in KD vs) (slot_in KD vs))
  kd_step = kd_step_of (register_in vs) refl y.filled

-- the three commands that only read rows
ga_step : (x : Call) (vs : List Value) → Yes x GA vs → IsStep x GA vs (effect x GA vs (record_in GA vs) (slot_in GA vs))
unfolding answered
ga_step x vs y = rw (says_yes_lem x GA vs y) reads

gl_step : (x : Call) (vs : List Value) → Yes x GL vs → IsStep x GL vs (effect x GL vs (record_in GL vs) (slot_in GL vs))
unfolding answered
gl_step x vs y = rw (says_yes_lem x GL vs y) reads

kq_step : (x : Call) (vs : List Value) → Yes x KQ vs → IsStep x KQ vs (effect x KQ vs (record_in KQ vs) (slot_in KQ vs))
unfolding answered
kq_step x vs y = rw (says_yes_lem x KQ vs y) reads

-- each command: some item is its step, whatever the counts are;
moves_effect : (x : Call) (c : Command) (vs : List Value) → Yes x c vs → (ι : Item) × Moves x ι (effect x c vs (record_in c vs) (slot_in c vs))
moves_effect x RS vs y = (_, rs_step x vs y)
moves_effect x KC vs y = (_, kc_step x vs y)
moves_effect x KR vs y = (_, kr_step x vs y)
moves_effect x KL vs y = (loading_step x vs y, steps_kl x vs y)
moves_effect x KF vs y = (_, kf_step x vs y)
moves_effect x KX vs y = (_, kx_step x vs y)
moves_effect x KD vs y = (_, kd_step x vs y)
moves_effect x GA vs y = (_, ga_step x vs y)
moves_effect x GL vs y = (_, gl_step x vs y)
moves_effect x KQ vs y = (_, kq_step x vs y)
moves_effect x Unknown vs y = let z = y.header in nope (cc)

-- the item that is read off the answer is it where the count of registers is the rows'
effect_step : (x : Call) → x.register_count ≡ length x.registers → (c : Command) (vs : List Value) → Yes x c vs → IsStep x c vs (effect x c vs (record_in c vs) (slot_in c vs))
effect_step x n RS vs y = rs_step x vs y
effect_step x n KC vs y = kc_step x vs y
effect_step x n KR vs y = kr_step x vs y
effect_step x n KL vs y = kl_step x vs y n
effect_step x n KF vs y = kf_step x vs y
effect_step x n KX vs y = kx_step x vs y
effect_step x n KD vs y = kd_step x vs y
effect_step x n GA vs y = ga_step x vs y
effect_step x n GL vs y = gl_step x vs y
effect_step x n KQ vs y = kq_step x vs y
effect_step x n Unknown vs y = let z = y.header in nope (cc)

-- THE STEP: every answer to every call
pub answer_step : (x : Call) → x.register_count ≡ length x.registers → IsStep x (command_in x.request) (fields_in x.request) (answer_of x)
unfolding answer_of
answer_step x n = go (first_no (questions x)) refl
  where
    go : (o : Option Refusal) → first_no (questions x) ≡ o → IsStep x (command_in x.request) (fields_in x.request) (answer_to x o (command_in x.request) (fields_in x.request))
    go (some r) e = refused_step x (command_in x.request) (fields_in x.request) r e
    go none e = effect_step x n (command_in x.request) (fields_in x.request) (yes_of x e)

-- whatever the counts are, the rows after every answer are those after some step
pub moves : (x : Call) → (ι : Item) × Moves x ι (answer_of x)
unfolding answer_of
moves x = go (first_no (questions x)) refl
  where
    go : (o : Option Refusal) → first_no (questions x) ≡ o → (ι : Item) × Moves x ι (answer_to x o (command_in x.request) (fields_in x.request))
    go (some r) e = (_, refused_step x (command_in x.request) (fields_in x.request) r e)
    go none e = moves_effect x (command_in x.request) (fields_in x.request) (yes_of x e)
