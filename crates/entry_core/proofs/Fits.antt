-- What a decision says of its places, its strings and the room is enough to write its response and to change the rows.
use mathlib.Core.Path.{◌≡◌, refl, ap, ◌∙◌}
use mathlib.Core.Bool.{true, false, not}
use mathlib.Core.List.{List, map}
use mathlib.Core.Option.{Option, none, some}
use Prim.Native.Nat.{ℕ, ◌+◌, ◌≤◌, ◌<◌}
use native.Mathlib.Omega.{arith}
use lib.Dec.{leb}
use lib.ListN.{length, get_or, take}
use lib.Seq.{get_or-set_same}
use borrow.Author.Tests.{leb-true}
use borrow.Table.Elements.{take-le}
use Rattle.byte_strings.proofs.Flags.{nope, and_first, and_second}
use Rattle.byte_strings.proofs.StringLaws.{same_equal}
use Rattle.text_timestamps.specs.Timestamps.{is_timestamp}
use Rattle.text_classes.specs.Classes.{are_all}
use Rattle.text_classes.proofs.Identify.{name_short}
use Rattle.text_decimals.specs.Decimals.{is_number, is_unpadded}
use Rattle.card_stored.specs.Stored.{load_values}
use Rattle.card_laws.proofs.Incoming.{stored_measured}
use Rattle.field_values.specs.Values.{Value}
use Rattle.text_forms.specs.Forms.{in_form}
use Rattle.text_forms.specs.declared.Form.TheVariants.{Name}
use Rattle.message_frames.specs.Frames.{is_whole, payload_of}
use Rattle.record_parser.specs.Records.{field}
use Rattle.record_identities.specs.Identities.{colon, identity_in_form}
use Rattle.record_types.specs.KeyRecords.{bar, public_key_in_form, response_in_form}
use Rattle.message_commands.specs.declared.Command.{Command}
use Rattle.message_commands.specs.declared.Command.TheVariants.{RS, KC, KR, KL, KF, KX, KD, GA, GL, KQ}
use Rattle.row_types.specs.Supplements.{is_well_formed, is_identity_right, is_load_request_right}
use Rattle.row_types.specs.Lists.{every_row, trimmed}
use Rattle.row_types.specs.Registers.{free_register, filled_register}
use Rattle.row_types.specs.RowReplies.{stored_in}
use Rattle.row_types.specs.Slots.{has_state, kmcid_of, is_named, is_slot_sound, free_slot}
use Rattle.row_types.specs.Sound.{are_sound}
use Rattle.row_types.specs.Index.{kept_name}
use Rattle.row_types.specs.Places.{slot_rows, register_rows}
use Rattle.row_types.specs.declared.SlotRow.{SlotRow}
use Rattle.row_types.specs.declared.SlotState.TheVariants.{Free}
use Rattle.row_types.proofs.ListLaws.{found}
use Rattle.row_index.specs.Found.{owner_number, AreOwnedBy}
use Rattle.row_index.specs.Lent.{tables_with}
use Rattle.row_index.proofs.LentLaws.{take_short}
use Rattle.row_index.proofs.OwnerLaws.{owned_by_number}
use Rattle.row_types.specs.declared.Supplement.{Supplement}
use Rattle.row_types.specs.declared.Tables.{Tables}
use Rattle.engine.specs.Refusals.{Header, general, own, refusal}
use Rattle.engine.specs.Requests.{fields_in, register_in, record_in, slot_in, card_in, first_text}
use Rattle.engine.specs.Questions.{Call, are_counts, slot_place, place_in, is_place}
use Rattle.engine.specs.Calls.{call_in}
use Rattle.engine.specs.Decisions.{decision_of}
use Rattle.engine.specs.declared.Refusal.{Refusal}
use Rattle.engine.specs.declared.Decision.{Decision}
use Rattle.engine.specs.declared.Decision.TheVariants.{Refuse, Reset, Start, Open, Load, Close, DeleteSlot, DeleteKey, GetCard, ListSlots, QuerySlot}
use Rattle.engine.proofs.DecisionLaws.{refused_first}
use Rattle.engine.proofs.RefusalLaws.{is_unwritten, is_own, Group, of_tables, of_message, of_later, refusal_group, tables_unwritten, message_general}
use Rattle.engine.specs.Answers.{loaded_card}
use Rattle.engine.proofs.Steps.{is_short_lem, is_card_lem, is_check, is_name}
use Rattle.response_refusals.specs.RefusalForms.{CanRefuse}
use Rattle.response_refusals.proofs.RefusalLaws.{can_tell}
use Rattle.decide_parts.specs.Parts.{card_of, HasParts}
use Rattle.decide_parts.specs.declared.Parts.{Parts}
use Rattle.response_requests.specs.Responding.{HasRoom, CanRespond}
use Rattle.entry_changes.specs.Changes.{registers_after, CanChangeSlots, CanSweep, CanChangeRegisters}
use Rattle.engine.proofs.Places.{filled_below}
use Rattle.decide_counts.proofs.CountLaws.{slots_few, registers_few}
use Rattle.entry_core.specs.Owners.{AreOwners}
use Rattle.entry_core.proofs.Front.{get_d_front}
use Rattle.entry_core.proofs.DoneBy.{load_place, start_place, open_place, close_place, delete_slot_place, delete_key_place, get_card_place, query_slot_place}
use Rattle.entry_core.proofs.Asked.{Asked, asked_of, slot_below, session_below, card_below}

-- a request that is whole has ten bytes at least
whole_ten : (q : List ℕ) → is_whole q ≡ true → 10 ≤ length q
unfolding is_whole
whole_ten q e = leb-true 10 (length q) (and_first (leb 10 (length q)) _ e)

-- the KMCID of an identity in form has 40 bytes at most
identity_short : (s : List ℕ) → identity_in_form s ≡ true → length (field colon 2 s) ≤ 40
unfolding identity_in_form
identity_short s e = name_short (field colon 2 s) (and_first (in_form Name (field colon 2 s)) _ (and_second (in_form Name (field colon 1 s)) _ e))

public_short : (r : List ℕ) → public_key_in_form r ≡ true → length (field colon 2 (field bar 1 r)) ≤ 40
unfolding public_key_in_form
public_short r e = identity_short (field bar 1 r) (and_first (identity_in_form (field bar 1 r)) _ e)

response_short : (r : List ℕ) → response_in_form r ≡ true → length (field colon 2 (field bar 1 r)) ≤ 40
unfolding response_in_form
response_short r e = identity_short (field bar 1 r) (and_first (identity_in_form (field bar 1 r)) _ e)

request_short : (x : Supplement) → is_well_formed x ≡ true → x.request_length ≤ 700
unfolding is_well_formed is_load_request_right
request_short x e =
    let l : is_load_request_right x ≡ true = and_first (is_load_request_right x) _ (and_second (is_identity_right x) _ (and_second (is_timestamp x.clock) _ e)) in
    leb-true x.request_length 700 (and_first (leb x.request_length 700) _ (and_second (leb 1 x.request_length) _ l))

-- a refusal is told where there is room
unwritten_tells : (h : Option Header) (n m : ℕ) → is_unwritten h ≡ true → CanRefuse h n m
unwritten_tells none n m e = tt
unwritten_tells (some h) n m e = nope (cc)

general_tells : (h : Option Header) (n m : ℕ) → is_own h ≡ false → 1024 ≤ m → CanRefuse h n m
general_tells none n m e r = tt
general_tells (some general) n m e r = r
general_tells (some own) n m e r = nope (cc)

module _ (c : Call) where
  tells : (r : Refusal) → decision_of c ≡ Refuse r → CanRefuse (refusal r).header (length c.request) c.room
  tells r e = go (refusal_group c r (refused_first c r e))
    where
      go : Group c r → CanRefuse (refusal r).header (length c.request) c.room
      go (of_tables w) = unwritten_tells (refusal r).header (length c.request) c.room (tables_unwritten c r w)
      go (of_message t w) = general_tells (refusal r).header (length c.request) c.room (message_general c r w) (leb-true 1024 c.room t.1.0)
      go (of_later t y w) = can_tell (refusal r).header (length c.request) c.room (whole_ten c.request y.0) (leb-true 1024 c.room t.1.0)

  module _ (k : Command) (y : Asked c k) where
    has_room : HasRoom (length c.request) c.room
    has_room = (whole_ten c.request y.whole, leb-true 1024 c.room y.room)

  loaded_short : (k : ℕ) → decision_of c ≡ Load k → length (card_of c.supplement (fields_in c.request)) ≤ 256
  unfolding record_in slot_in
  loaded_short k e = is_short_lem c (fields_in c.request) (asked_of c (Load k) e refl)

  -- without the zeros after it, the row's card is the stored one
  loaded_shown : (k : ℕ) → decision_of c ≡ Load k → stored_in (filled_register (card_of c.supplement (fields_in c.request))) ≡ card_of c.supplement (fields_in c.request)
  unfolding record_in slot_in filled_register loaded_card trimmed are_all is_number is_unpadded
  loaded_shown k e =
      let vs = fields_in c.request in
      let y = asked_of c (Load k) e refl in
      stored_measured (card_in (record_in KL vs)) (is_card_lem c vs y) (load_values c.supplement.check (slot_in KL vs)) refl (is_check c vs y) (is_name c vs y) refl

-- a slot that was found, and the KMCID that its row keeps
found_at : (s : List ℕ) (l : List SlotRow) (k : ℕ) → is_place (slot_place s l) ≡ true → place_in l (slot_place s l) ≡ k → slot_place s l ≡ some k
found_at s l k e p = go (slot_place s l) refl e p
  where
    go : (o : Option ℕ) → slot_place s l ≡ o → is_place o ≡ true → place_in l o ≡ k → slot_place s l ≡ some k
    go (some j) w a b = w ∙ ap (λ (n : ℕ). some n) b
    go none w a b = nope (cc)

kept_at : (s : List ℕ) (n : ℕ) (l : List SlotRow) (k : ℕ) → slot_place s (take n l) ≡ some k → kmcid_of (get_or l k free_slot) ≡ s
unfolding is_named
kept_at s n l k p =
    let f = found (is_named s) free_slot (take n l) k p in
    rw (get_d_front n l k free_slot f.0) (same_equal (kmcid_of (get_or (take n l) k free_slot)) s (and_second (not (has_state Free (get_or (take n l) k free_slot))) _ f.1))

-- the places of a call over tables by value
module _ (t : Tables) (x : Supplement) (q : List ℕ) (room : ℕ) (owners : List ℕ)
    (owned : are_counts t.slot_count t.register_count ≡ true → AreOwners owners (slot_rows t) (register_rows t) t.register_count) where
  abbrev k₀ : Call
  k₀ = call_in t x q room

  abbrev vs : List Value
  vs = fields_in q

  -- a place among the rows is one of the places
  slot_place_lem : (o : Command) → Asked k₀ o → (k i : ℕ) → i ≡ k → i < length (take t.slot_count t.slots) → k < 8
  slot_place_lem o y k i e h =
      let a = slots_few t.slot_count t.register_count y.counts in
      let b = take_short t.slot_count t.slots in
      omega arith

  register_place : (o : Command) → Asked k₀ o → (k i : ℕ) → i ≡ k → i < length (take t.register_count t.registers) → k < 32
  register_place o y k i e h =
      let a = registers_few t.slot_count t.register_count y.counts in
      let b = take_short t.register_count t.registers in
      omega arith

  load_low : (k : ℕ) → decision_of k₀ ≡ Load k → k < 32
  load_low k e =
      let y = asked_of k₀ (Load k) e refl in
      register_place KL y k _ (load_place k₀ k e) (card_below (card_in (record_in KL vs)) k₀.registers y.home)

  load_within : (k : ℕ) → decision_of k₀ ≡ Load k → k < length t.registers
  load_within k e =
      let h = card_below (card_in (record_in KL vs)) k₀.registers (asked_of k₀ (Load k) e refl).home in
      omega (arith, take-le t.register_count t.registers, h, load_place k₀ k e)

  delete_slot_low : (k : ℕ) → decision_of k₀ ≡ DeleteSlot k → k < 8
  delete_slot_low k e =
      let y = asked_of k₀ (DeleteSlot k) e refl in
      slot_place_lem KX y k _ (delete_slot_place k₀ k e) (slot_below (slot_in KX vs) k₀.slots y.known)

  -- the owners write_refusal the registers under a slot that was found
  owned_at : (o : Command) → Asked k₀ o → (s : List ℕ) (k : ℕ) → slot_place s (slot_rows t) ≡ some k → AreOwnedBy (k + 1) s (take t.register_count owners) (register_rows t)
  unfolding are_sound
  owned_at o y s k p =
      let e : take t.register_count owners ≡ map (owner_number (map kept_name (slot_rows t))) (register_rows t) = owned y.counts y.sound in
      rw e (owned_by_number (slot_rows t) (and_first (every_row is_slot_sound (slot_rows t)) _ y.sound) s k p (register_rows t))

  queried_at : (k : ℕ) → decision_of k₀ ≡ QuerySlot k → slot_place (slot_in KQ vs) (slot_rows t) ≡ some k
  queried_at k e = found_at (slot_in KQ vs) (slot_rows t) k (asked_of k₀ (QuerySlot k) e refl).known (query_slot_place k₀ k e)

  -- the response is written over the register rows after the decision; the three commands that look at them change none
  abbrev after : Decision → Tables
  after d = tables_with t.slots t.slot_count (registers_after d t.register_count t.registers x vs) t.register_count

  pub can_respond : (d : Decision) → decision_of k₀ ≡ d → (p : Parts) → HasParts d p (payload_of q) → CanRespond d p (after d) owners x q room
  unfolding record_in
  can_respond (Refuse r) e p h = tells k₀ r e
  can_respond Reset e p h = has_room k₀ RS (asked_of k₀ Reset e refl)
  can_respond (Start k) e p h =
      let y = asked_of k₀ (Start k) e refl in
      (has_room k₀ KC y, (h, (public_short (first_text vs) (and_first (public_key_in_form (first_text vs)) true y.form), request_short x y.supplement)))
  can_respond (Open k) e p h =
      let y = asked_of k₀ (Open k) e refl in
      (has_room k₀ KR y, (h, response_short (first_text vs) (and_first (response_in_form (first_text vs)) true y.form)))
  can_respond (Load k) e p h =
      let y = asked_of k₀ (Load k) e refl in
      (has_room k₀ KL y, (ap stored_in (get_or-set_same t.registers k (filled_register (card_of x vs)) free_register (load_within k e)) ∙ loaded_shown k₀ k e, load_low k e))
  can_respond (Close k) e p h = has_room k₀ KF (asked_of k₀ (Close k) e refl)
  can_respond (DeleteSlot k) e p h = has_room k₀ KX (asked_of k₀ (DeleteSlot k) e refl)
  can_respond (DeleteKey k) e p h = has_room k₀ KD (asked_of k₀ (DeleteKey k) e refl)
  can_respond (GetCard k) e p h =
      let y = asked_of k₀ (GetCard k) e refl in
      (has_room k₀ GA y, register_place GA y k _ (get_card_place k₀ k e) (filled_below (register_in vs) k₀.registers y.filled))
  can_respond ListSlots e p h =
      let y = asked_of k₀ ListSlots e refl in
      (has_room k₀ GL y, slots_few t.slot_count t.register_count y.counts)
  can_respond (QuerySlot k) e p h =
      let y = asked_of k₀ (QuerySlot k) e refl in
      let found = queried_at k e in
      (has_room k₀ KQ y, (slot_place_lem KQ y k _ (query_slot_place k₀ k e) (slot_below (slot_in KQ vs) k₀.slots y.known), (registers_few t.slot_count t.register_count y.counts, rw (kept_at (slot_in KQ vs) t.slot_count t.slots k found) (owned_at KQ y (slot_in KQ vs) k found))))

  pub can_slots : (d : Decision) → decision_of k₀ ≡ d → (p : Parts) → HasParts d p (payload_of q) → CanChangeSlots d p t.slot_count (payload_of q)
  can_slots (Refuse r) e p h = tt
  can_slots Reset e p h = slots_few t.slot_count t.register_count (asked_of k₀ Reset e refl).counts
  can_slots (Start k) e p h =
      let y = asked_of k₀ (Start k) e refl in
      (slot_place_lem KC y k _ (start_place k₀ k e) (session_below (slot_in KC vs) k₀.slots y.spot), h)
  can_slots (Open k) e p h =
      let y = asked_of k₀ (Open k) e refl in
      slot_place_lem KR y k _ (open_place k₀ k e) (slot_below (slot_in KR vs) k₀.slots y.known)
  can_slots (Load k) e p h = tt
  can_slots (Close k) e p h =
      let y = asked_of k₀ (Close k) e refl in
      slot_place_lem KF y k _ (close_place k₀ k e) (slot_below (slot_in KF vs) k₀.slots y.known)
  can_slots (DeleteSlot k) e p h = delete_slot_low k e
  can_slots (DeleteKey k) e p h = tt
  can_slots (GetCard k) e p h = tt
  can_slots ListSlots e p h = tt
  can_slots (QuerySlot k) e p h = tt

  -- SM?KF and SM?KX: the registers of the slot
  can_sweep : (o : Command) (y : Asked k₀ o) (k : ℕ) → place_in (slot_rows t) (slot_place (first_text vs) (slot_rows t)) ≡ k → is_place (slot_place (first_text vs) (slot_rows t)) ≡ true → CanSweep k t.register_count owners t.registers (payload_of q)
  can_sweep o y k w f =
      (slot_place_lem o y k _ w (slot_below (first_text vs) (slot_rows t) f), (registers_few t.slot_count t.register_count y.counts, owned_at o y (first_text vs) k (found_at (first_text vs) (slot_rows t) k f w)))

  pub can_registers : (d : Decision) → decision_of k₀ ≡ d → (p : Parts) → HasParts d p (payload_of q) → CanChangeRegisters d p t.register_count owners t.registers x (payload_of q)
  unfolding slot_in
  can_registers (Refuse r) e p h = tt
  can_registers Reset e p h = registers_few t.slot_count t.register_count (asked_of k₀ Reset e refl).counts
  can_registers (Start k) e p h = tt
  can_registers (Open k) e p h = tt
  can_registers (Load k) e p h =
      (load_low k e, (h, loaded_short k₀ k e))
  can_registers (Close k) e p h =
      let y = asked_of k₀ (Close k) e refl in
      can_sweep KF y k (close_place k₀ k e) y.known
  can_registers (DeleteSlot k) e p h =
      let y = asked_of k₀ (DeleteSlot k) e refl in
      can_sweep KX y k (delete_slot_place k₀ k e) y.known
  can_registers (DeleteKey k) e p h =
      let y = asked_of k₀ (DeleteKey k) e refl in
      register_place KD y k _ (delete_key_place k₀ k e) (filled_below (register_in vs) k₀.registers y.filled)
  can_registers (GetCard k) e p h = tt
  can_registers ListSlots e p h = tt
  can_registers (QuerySlot k) e p h = tt
