-- Every response that the engine writes is framed as a request is, and reads back as just its reply: header, status and fields (demand 2).
use mathlib.Core.Path.{◌≡◌, refl, sym, subst}
use mathlib.Core.Logic.{◌⊎◌, inl, inr}
use mathlib.Core.Bool.{Bool, true, false, cond, not, ◌&&◌}
use mathlib.Core.List.{List, [], ◌∷◌}
use mathlib.Core.Option.{Option, none, some}
use Prim.Native.Nat.{ℕ, ◌+◌, ◌-◌, ◌≤◌}
use native.Mathlib.Omega.{arith}
use lib.Dec.{eqb, leb}
use lib.ListN.{length, length-take}
use borrow.Author.Tests.{leb-true, eqb-true}
use Rattle.byte_strings.specs.Strings.{same_bytes}
use Rattle.byte_strings.proofs.Flags.{nope, and_first, and_second, no, holds}
use Rattle.byte_strings.proofs.StringLaws.{same_equal}
use Rattle.text_classes.specs.Classes.{are_all}
use Rattle.text_classes.specs.Identifiers.{is_identifier}
use Rattle.text_classes.proofs.Identify.{name_short}
use Rattle.text_classes.specs.declared.Class.TheVariants.{Text, Printable}
use Rattle.text_timestamps.specs.Timestamps.{is_timestamp}
use Rattle.text_forms.specs.declared.Form.TheVariants.{Name}
use Rattle.text_forms.proofs.FormBounds.{in_form_text}
use Rattle.field_values.specs.Values.{Value, string, content_bytes, payload_bytes, are_values}
use Rattle.record_identities.specs.Identities.{name_in}
use Rattle.record_types.specs.KeyRecords.{public_key_in_form}
use Rattle.message_frames.specs.Frames.{header_of, answered as as_answered}
use Rattle.message_replies.specs.Responses.{Reply, reply_bytes, reply_to, Says}
use Rattle.message_replies.proofs.ResponseLaws.{reply_reads}
use Rattle.message_commands.specs.Commands.{headers, named, command_of}
use Rattle.message_commands.specs.declared.Header.{Header as Named}
use Rattle.message_commands.specs.declared.Command.{Command}
use Rattle.message_commands.specs.declared.Command.TheVariants.{RS, KC, KR, KL, KF, KX, KD, GA, GL, KQ, Unknown}
use Rattle.row_types.specs.Lists.{every_row, distinct_rows}
use Rattle.row_types.specs.Slots.{is_slot_sound, is_same_slot}
use Rattle.row_types.specs.Registers.{is_vacant, is_register_sound, free_register}
use Rattle.row_types.specs.Sound.{are_sound}
use Rattle.row_types.specs.RowReplies.{stored_in, slot_names, name_fields, query_fields}
use Rattle.row_types.specs.Supplements.{load_request, is_identity_right, is_load_request_right, is_well_formed}
use Rattle.row_types.proofs.ListLaws.{every_at}
use Rattle.row_types.proofs.RowReplyLaws.{names_values, query_values, stored_values}
use Rattle.engine.specs.Refusals.{RefusalEntry, refusal}
use Rattle.engine.specs.Requests.{command_in, fields_in, is_one_of_ten, register_in, record_in, slot_in, first_text, kmc_identity_in}
use Rattle.engine.specs.Questions.{Call, are_counts, slot_named, register_numbered, is_filled, questions, first_no}
use Rattle.engine.specs.Answers.{response, response_of, accepted, error_header, answered, effect, refused, answer_to, answer_of}
use Rattle.engine.specs.declared.Refusal.{Refusal}
use Rattle.engine.proofs.RowWords.{named_state, free_register_sound}
use Rattle.engine.proofs.RefusalLaws.{Under, under_error, under_own, Replied, reply, refusal_replied}
use Rattle.engine.proofs.Places.{known_at}
use Rattle.engine.proofs.ReplyLengths.{after_string, after_number, stored_length, listed_length, query_length}
use Rattle.engine.proofs.Steps.{Yes, yes_of, slots_sound, v, row_sound, row_is, row_identifier, identity_name, key_identity, stored, register_at_lem, is_short_lem, load_fields, load_values_lem, kl_reply}

abbrev is_header : List ℕ → Bool
is_header h = eqb (length h) 5 && are_all Printable h

-- fields that a response can carry
record CanBeSent (fields : List Value) : Type 0 where
  values : are_values fields ≡ true
  short : length (payload_bytes fields) ≤ 1012

reads : (r : Reply) → is_header r.header ≡ true → length r.status ≡ 2 → are_all Printable r.status ≡ true → CanBeSent r.fields → Says (reply_bytes r) r
reads r e two p c =
    let h = r.header in
    reply_reads r (eqb-true (length h) 5 (and_first (eqb (length h) 5) (are_all Printable h) e)) two (and_second (eqb (length h) 5) (are_all Printable h) e) p c.values c.short

-- the header of the response to a known one is five printable characters; computed over the table of headers
abbrev all_headers : (List ℕ → Bool) → List Named → Bool
all_headers f [] = true
all_headers f (e ∷ es) = f e.1 && all_headers f es

named_passes : (f : List ℕ → Bool) (es : List Named) → all_headers f es ≡ true → (h : List ℕ) → is_one_of_ten (named es h) ≡ true → f h ≡ true
named_passes f [] a h b = nope (cc)
named_passes f (e ∷ es) a h b = go (same_bytes h e.1) refl b (named_passes f es (and_second (f e.1) (all_headers f es) a) h)
  where
    go : (t : Bool) → same_bytes h e.1 ≡ t → is_one_of_ten (cond t e.0 (named es h)) ≡ true → (is_one_of_ten (named es h) ≡ true → f h ≡ true) → f h ≡ true
    go true q w more = rw (same_equal h e.1 q) (and_first (f e.1) (all_headers f es) a)
    go false q w more = more w

built_header : (q : List ℕ) → is_one_of_ten (command_in q) ≡ true → is_header (as_answered (header_of q)) ≡ true
unfolding command_of headers are_all as_answered
built_header q b = named_passes (λ (h : List ℕ). is_header (as_answered h)) headers refl (header_of q) b

error_header_lem : is_header error_header ≡ true
unfolding are_all
error_header_lem = refl

-- a reply, where there is one, is what its bytes say
abbrev pub ReadsBack : Option Reply → Type 0
ReadsBack none = Unit
ReadsBack (some r) = Says (reply_bytes r) r

-- the reply to a refusal can be written: computed over the refusals
abbrev is_writable : RefusalEntry → Bool
is_writable e =
    eqb (length e.status) 2
    && (are_all Printable e.status && (are_values e.fields && leb (length (payload_bytes e.fields)) 1012))

refusal_reads : (h : List ℕ) (e : RefusalEntry) → is_header h ≡ true → is_writable e ≡ true → ReadsBack (some (record { header = h; status = e.status; fields = e.fields }))
refusal_reads h e b w =
    let r = and_second (eqb (length e.status) 2) _ w in
    let f = and_second (are_all Printable e.status) _ r in
    reads (record { header = h; status = e.status; fields = e.fields }) b (eqb-true (length e.status) 2 (and_first (eqb (length e.status) 2) _ w)) (and_first (are_all Printable e.status) _ r)
    (record { values = and_first (are_values e.fields) _ f; short = leb-true (length (payload_bytes e.fields)) 1012 (and_second (are_values e.fields) _ f) })

under_header : (q h : List ℕ) → Under q h → is_header h ≡ true
under_header q h under_error = error_header_lem
under_header q h (under_own y) = built_header q y.1.1.0

module _ (x : Call) (r : Refusal) where
  refusal_back : first_no (questions x) ≡ some r → ReadsBack (reply x r)
  unfolding are_all content_bytes
  refusal_back e = go (refusal_replied x r (λ (z : Refusal). is_writable (refusal z)) refl refl e)
    where
      go : (reply x r ≡ none) ⊎ (Replied x.request (refusal r) (reply x r) × (is_writable (refusal r) ≡ true)) → ReadsBack (reply x r)
      go (inl n) = rw n tt
      go (inr w) = rw w.0.is (refusal_reads w.0.header (refusal r) (under_header x.request w.0.header w.0.under) w.1)

-- an accepted answer
yes_back : (x : Call) (c : Command) (vs : List Value) → Yes x c vs → command_in x.request ≡ c → (fields : List Value) → CanBeSent fields → ReadsBack (some (reply_to (header_of x.request) accepted fields))
unfolding are_all
yes_back x c vs y e fields k = reads (reply_to (header_of x.request) accepted fields) (built_header x.request (rw e y.header)) refl refl k

no_fields : CanBeSent []
no_fields = record { values = refl; short = omega arith }

name_text : (s : List ℕ) → is_identifier s ≡ true → are_all Text s ≡ true
name_text s e = in_form_text Name s e

-- SM?KR: the slot's KMCID
one_name_lem : (s : List ℕ) → is_identifier s ≡ true → CanBeSent (string s ∷ [])
one_name_lem s i = record { values = rw (name_text s i) refl; short = omega (arith, after_string s [] 40 0 (name_short s i) (omega arith)) }

-- SM?KC: it, and the load request of the supplement
module _ (x : Call) (c : Command) (vs : List Value) (y : Yes x c vs) where
  request_right : is_load_request_right x.supplement ≡ true
  unfolding is_well_formed
  request_right =
      let z = x.supplement in
      and_first (is_load_request_right z) _ (and_second (is_identity_right z) _ (and_second (is_timestamp z.clock) _ y.supplement))

  load_text : are_all Text (load_request x.supplement) ≡ true
  unfolding is_load_request_right
  load_text =
      let z = x.supplement in
      and_second (leb z.request_length 700) (are_all Text (load_request z)) (and_second (leb 1 z.request_length) _ request_right)

  load_short : length (load_request x.supplement) ≤ 700
  unfolding is_load_request_right
  load_short =
      let z = x.supplement in
      let n = leb-true z.request_length 700 (and_first (leb z.request_length 700) (are_all Text (load_request z)) (and_second (leb 1 z.request_length) _ request_right)) in
      omega (arith, length-take z.request_length z.request)

  name_and_request : (s : List ℕ) → is_identifier s ≡ true → CanBeSent (string s ∷ string (load_request x.supplement) ∷ [])
  name_and_request s i =
      let z = load_request x.supplement in
      record {
        values = rw (name_text s i, load_text) refl;
        short = omega (arith, after_string s (string z ∷ []) 40 702 (name_short s i) (after_string z [] 700 0 load_short (omega arith)));
      }

-- SM?GA: the row of the register is sound and filled,
pub shown_row : (x : Call) (vs : List Value) → Yes x GA vs → (is_register_sound (register_numbered (register_in vs) x.registers) ≡ true) × (is_vacant (register_numbered (register_in vs) x.registers) ≡ false)
unfolding are_sound is_filled
shown_row x vs y =
    let rows = x.registers in
    let n = register_in vs in
    let row = register_numbered n rows in
    let o = and_second (leb n (length rows)) _ (and_second (leb 1 n) _ y.filled) in
    let every = and_first (every_row is_register_sound rows) _ (and_second (distinct_rows is_same_slot x.slots) _ (and_second (every_row is_slot_sound x.slots) _ y.sound)) in
    (every_at is_register_sound free_register free_register_sound rows every (n - 1), no (is_vacant row) (holds (not (is_vacant row)) o))

-- and its card is sent
shown_card : (x : Call) (vs : List Value) → Yes x GA vs → CanBeSent (string (stored_in (register_numbered (register_in vs) x.registers)) ∷ [])
shown_card x vs y =
    let row = register_numbered (register_in vs) x.registers in
    let w = shown_row x vs y in
    record {
      values = rw (stored_values row w.0 w.1) refl;
      short = omega (arith, after_string (stored_in row) [] 256 0 (stored_length row w.0 w.1) (omega arith));
    }

-- the counts are those of the rows
module _ (x : Call) (m : x.slot_count ≡ length x.slots) (n : x.register_count ≡ length x.registers) where
  few_slots : (c : Command) (vs : List Value) → Yes x c vs → length x.slots ≤ 8
  unfolding are_counts
  few_slots c vs y =
      let k = leb-true x.slot_count 8 (and_first (leb x.slot_count 8) _ (and_second (leb 1 x.slot_count) _ y.counts)) in
      omega (arith, m)

  few_registers : (c : Command) (vs : List Value) → Yes x c vs → length x.registers ≤ 32
  unfolding are_counts
  few_registers c vs y =
      let k = leb-true x.register_count 32 (and_second (leb 1 x.register_count) _ (and_second (leb x.slot_count 8) _ (and_second (leb 1 x.slot_count) _ y.counts))) in
      omega (arith, n)

  -- SM?KQ: what the row of a known slot holds
  queried : (vs : List Value) → Yes x KQ vs → CanBeSent (query_fields (slot_named (slot_in KQ vs) x.slots) x.registers)
  queried vs y =
      let k = known_at x.slots (slot_in KQ vs) y.known in
      let row = v x KQ vs y k in
      let sound = row_sound x KQ vs y k in
      let o = named_state row (slot_in KQ vs) k.named in
      let few = few_registers KQ vs y in
      record {
        values = rw (row_is x KQ vs y k) (query_values row x.registers sound o few);
        short = rw (row_is x KQ vs y k) (omega (arith, query_length row x.registers sound o few));
      }

  -- SM?GL: the names
  named_slots : (vs : List Value) → Yes x GL vs → CanBeSent (name_fields (slot_names x.slots))
  named_slots vs y =
      record {
        values = names_values x.slots (slots_sound x GL vs y);
        short = omega (arith, listed_length x.slots (slots_sound x GL vs y), few_slots GL vs y);
      }

  -- SM?KL: register and card
  loaded : (vs : List Value) (y : Yes x KL vs) → CanBeSent (load_fields x vs y)
  loaded vs y =
      let card = stored x vs y in
      record {
        values = load_values_lem x vs y n;
        short = omega (arith, after_number ((register_at_lem x vs y).place + 1) (string card ∷ []) 258 (after_string card [] 256 0 (is_short_lem x vs y) (omega arith)));
      }

  load_back : (vs : List Value) → Yes x KL vs → command_in x.request ≡ KL → ReadsBack (effect x KL vs (record_in KL vs) (slot_in KL vs)).reply
  load_back vs y e = subst ReadsBack (sym (kl_reply x vs y)) (yes_back x KL vs y e (load_fields x vs y) (loaded vs y))

  effect_back : (c : Command) (vs : List Value) → Yes x c vs → command_in x.request ≡ c → ReadsBack (effect x c vs (record_in c vs) (slot_in c vs)).reply
  unfolding answered record_in slot_in
  effect_back RS vs y e = yes_back x RS vs y e [] no_fields
  effect_back KC vs y e =
      let q = kmc_identity_in (first_text vs) in
      let i = identity_name q (key_identity (first_text vs) (and_first (public_key_in_form (first_text vs)) _ y.form)) in
      yes_back x KC vs y e (string (name_in q) ∷ string (load_request x.supplement) ∷ []) (name_and_request x KC vs y (name_in q) i)
  effect_back KR vs y e =
      yes_back x KR vs y e (string (slot_in KR vs) ∷ []) (one_name_lem (slot_in KR vs) (row_identifier x KR vs y (known_at x.slots (slot_in KR vs) y.known)))
  effect_back KL vs y e = load_back vs y e
  effect_back KF vs y e = yes_back x KF vs y e [] no_fields
  effect_back KX vs y e = yes_back x KX vs y e [] no_fields
  effect_back KD vs y e = yes_back x KD vs y e [] no_fields
  effect_back GA vs y e = yes_back x GA vs y e (string (stored_in (register_numbered (register_in vs) x.registers)) ∷ []) (shown_card x vs y)
  effect_back GL vs y e = yes_back x GL vs y e (name_fields (slot_names x.slots)) (named_slots vs y)
  effect_back KQ vs y e = yes_back x KQ vs y e (query_fields (slot_named (slot_in KQ vs) x.slots) x.registers) (queried vs y)
  effect_back Unknown vs y e = let z = y.header in nope (cc)

  refused_back : (r : Refusal) → first_no (questions x) ≡ some r → ReadsBack (refused x r).reply
  unfolding refused
  refused_back r e = refusal_back x r e

  answer_back : ReadsBack (answer_of x).reply
  unfolding answer_of
  answer_back = go (first_no (questions x)) refl
    where
      go : (o : Option Refusal) → first_no (questions x) ≡ o → ReadsBack (answer_to x o (command_in x.request) (fields_in x.request)).reply
      go (some r) e = refused_back r e
      go none e = effect_back (command_in x.request) (fields_in x.request) (yes_of x e) refl

  -- THE LAW: the response reads back as just the header, the status and the fields of the answer's reply
  pub reads_back : (r : Reply) → (answer_of x).reply ≡ some r → Says (response (answer_of x)) r
  reads_back r e = go (answer_of x).reply e answer_back
    where
      go : (o : Option Reply) → o ≡ some r → ReadsBack o → Says (response_of o) r
      go none w k = nope (cc)
      go (some q) w k = let z : q ≡ r = cc in rw (← z) k
