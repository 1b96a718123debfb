-- The commands that bring a record: from what the code has read and found to the decision. c is any call over these rows and this supplement, p the payload.
use mathlib.Core.Path.{◌≡◌, sym, ap, ◌∙◌}
use mathlib.Core.Bool.{Bool, true, false, not}
use mathlib.Core.List.{List, [], ◌∷◌}
use Prim.Native.Nat.{ℕ, ◌≤◌}
use lib.Dec.{eqb}
use lib.ListN.{length, get_or, take}
use borrow.Author.Tests.{not-false}
use Rattle.byte_strings.proofs.Flags.{and_first, and_second}
use Rattle.text_timestamps.specs.Timestamps.{timestamp_of, is_later}
use Rattle.field_values.specs.Values.{values_of}
use Rattle.record_identities.specs.Identities.{name_in}
use Rattle.record_parser.specs.Records.{field}
use Rattle.text_forms.specs.Forms.{in_form}
use Rattle.text_forms.specs.declared.Form.TheVariants.{HexSome}
use Rattle.card_incoming.specs.Incoming.{is_incoming, AreValues}
use Rattle.record_types.specs.KeyRecords.{bar, parses_public_key, public_key_in_form, parses_response, response_in_form, parses_key, key_in_form}
use Rattle.byte_bounds.specs.Bounds.{bytes_in, FitIn}
use Rattle.byte_bounds.specs.declared.Bounds.{Bounds}
use Rattle.card_entries.specs.Entries.{between, Within}
use Rattle.card_entries.specs.declared.Found.{Found}
use Rattle.card_entries.specs.declared.Found.TheVariants as found
use Rattle.message_commands.specs.declared.Command.{Command}
use Rattle.message_commands.specs.declared.Command.TheVariants.{KC, KR, KL, KF, KX, KQ}
use Rattle.decide_payloads.specs.Payloads.{text_in, first_text_in, second_text_in, first_between, second_between, TwoWithin, OnlyText, BothTexts}
use Rattle.decide_payloads.specs.declared.Texts.{Texts}
use Rattle.decide_payloads.specs.declared.TwoTexts.{TwoTexts}
use Rattle.decide_payloads.specs.declared.TwoTexts.TheVariants as texts
use Rattle.decide_payloads.proofs.PayloadLaws.{text_fields, text_absent, text_present, text_between, texts_absent, texts_present, first_between_lem, second_between_lem}
use Rattle.row_types.specs.Slots.{has_state}
use Rattle.row_types.specs.Places.{place_of, PlaceWithin}
use Rattle.row_types.specs.declared.Place.{Place}
use Rattle.row_types.specs.declared.Place.TheVariants.{At}
use Rattle.row_types.specs.declared.SlotRow.{SlotRow}
use Rattle.row_types.specs.declared.RegisterRow.{RegisterRow}
use Rattle.row_types.specs.declared.Supplement.{Supplement}
use Rattle.row_index.specs.Found.{AreKeys}
use Rattle.row_types.specs.declared.SlotState.TheVariants.{Pending, Loading}
use Rattle.engine.specs.Requests.{is_among, kmc_identity_in, expiry_in, card_in}
use Rattle.engine.specs.Questions.{Question, ◌otherwise◌, is_place}
use Rattle.engine.specs.Questions.{Call, slot_place, session_place, place_in, slot_named, first_no}
use Rattle.engine.specs.Answers.{card_place}
use Rattle.engine.specs.Decisions.{decided, decision_for}
use Rattle.engine.specs.declared.Refusal.TheVariants.{BadFields, Expired, UnknownSlot, NoFreeSlot, WrongState, CheckFailed}
use Rattle.engine.specs.declared.Decision.{Decision}
use Rattle.engine.specs.declared.Decision.TheVariants.{Refuse, Start, Open, Load}
use Rattle.decide_questions.specs.CommandQuestions.{start_questions, response_questions, open_questions, store_questions, load_questions}
use Rattle.decide_questions.proofs.Known.{place_below, row_named}
use Rattle.decide_questions.proofs.Flat.{fields_refused, start_is, open_is, load_is}

-- the row of a slot that was found, as the code has it
pub row_at : (l : List SlotRow) (n : ℕ) → length l ≡ 8 → n ≤ 8 → (s : List ℕ) (p : Place) → place_of p ≡ slot_place s (take n l) → PlaceWithin n p → (k : ℕ) → p ≡ At k → (d : SlotRow) → get_or l k d ≡ slot_named s (take n l)
row_at l n z h s p w v k o d = row_named l n k s d z h (place_below n p k v o) (sym w ∙ ap place_of o)

-- the commands with one string
module _ (c : Call) (p : List ℕ) (f : Found) (w : between p f ≡ text_in (values_of p)) where
  pub text_refused : (k : Command) → is_among k (KC ∷ KR ∷ KF ∷ KX ∷ KQ ∷ []) ≡ true → f ≡ found.Nothing → Refuse BadFields ≡ decision_for c k (values_of p)
  text_refused k m o = fields_refused c k (values_of p) (text_fields k (values_of p) m ∙ text_absent p (values_of p) f w o)

-- one string
pub only_text : (p : List ℕ) (f : Found) → between p f ≡ text_in (values_of p) → Within (length p) f → (a b : ℕ) → f ≡ found.At a b → OnlyText p (record { start = a; end = b })
only_text p f w v a b o = record { typed = text_present p (values_of p) f w a b o; stands = (rw o at v, text_between p (values_of p) f w a b o) }

-- the record r is the only string
module _ (c : Call) (p : List ℕ) (at : Bounds) (only : OnlyText p at) (S : List SlotRow) (h : c.slots ≡ S) (d : Decision) where
  abbrev r : List ℕ
  r = bytes_in p at

  abbrev name : List ℕ
  name = name_in (kmc_identity_in r)

  module _ (x : Supplement) (g : c.supplement ≡ x) where
    pub start_by : d ≡ decided (first_no (start_questions S x r)) (Start (place_in S (session_place name S))) → d ≡ decision_for c KC (values_of p)
    start_by e = (rw (← h, ← g) at e) ∙ start_is c (values_of p) r only.typed only.stands.1

    pub open_by : d ≡ decided (first_no (open_questions S x r (slot_named name S))) (Open (place_in S (slot_place name S))) → d ≡ decision_for c KR (values_of p)
    open_by e = (rw (← h, ← g) at e) ∙ open_is c (values_of p) r only.typed only.stands.1

    -- once the record parses and is in form: what is asked of a public key then,
    module _ (t u : Bool) (o : not t ≡ false) (m : u ≡ true) where
      abbrev start_later : List Question
      start_later =
          (is_later (timestamp_of (expiry_in r)) (timestamp_of x.clock) otherwise Expired)
          ∷ (is_place (session_place name S) otherwise NoFreeSlot)
          ∷ (eqb x.passed 1 otherwise CheckFailed)
          ∷ []

      pub start_then : t ≡ parses_public_key r → u ≡ public_key_in_form r → d ≡ decided (first_no start_later) (Start (place_in S (session_place name S))) → d ≡ decision_for c KC (values_of p)
      start_then q v e = start_by (e ∙ sym (rw (← q, not-false t o, ← v, m)))

      -- and of a load response, of the slot's row
      abbrev open_later : SlotRow → List Question
      open_later row =
          (is_place (slot_place name S) otherwise UnknownSlot)
          ∷ (has_state Pending row otherwise WrongState)
          ∷ response_questions x r row

      module _ (q : t ≡ parses_response r) (v : u ≡ response_in_form r) where
        pub open_then : (row : SlotRow) → d ≡ decided (first_no (open_later row)) (Open (place_in S (slot_place name S))) → row ≡ slot_named name S → d ≡ decision_for c KR (values_of p)
        open_then row e at_row = open_by ((rw at_row at e) ∙ sym (rw (← q, not-false t o, ← v, m)))

        -- once the slot is found, in row k, and its state tested
        module _ (f : Place) (pl : place_of f ≡ slot_place name S) (k : ℕ) (found : f ≡ At k) (b : Bool) (row : SlotRow) (is : b ≡ has_state Pending row) where
          pub open_state_no : b ≡ false → d ≡ Refuse WrongState → row ≡ slot_named name S → d ≡ decision_for c KR (values_of p)
          open_state_no held e = open_then row (e ∙ sym (rw (← pl, found, ← is, held)))

          pub open_state_yes : b ≡ true → d ≡ decided (first_no (response_questions x r row)) (Open k) → row ≡ slot_named name S → d ≡ decision_for c KR (values_of p)
          open_state_yes held e = open_then row (e ∙ sym (rw (← pl, found, ← is, held)))

-- two strings: d is what the code has decided of any registers that have the keys
module _ (c : Call) (p : List ℕ) (f : TwoTexts) (w : first_between p f ≡ first_text_in (values_of p)) where
  pub texts_refused : f ≡ texts.Nothing → Refuse BadFields ≡ decision_for c KL (values_of p)
  texts_refused o = fields_refused c KL (values_of p) (texts_absent p (values_of p) f w o)

pub both_texts : (p : List ℕ) (f : TwoTexts) → first_between p f ≡ first_text_in (values_of p) → second_between p f ≡ second_text_in (values_of p) → TwoWithin (length p) f → (t : Texts) → f ≡ texts.At t → BothTexts p t
both_texts p f w m v t o =
    let within : FitIn (length p) t.first × FitIn (length p) t.second = (rw o at v) in
    record {
      typed = texts_present p (values_of p) f t o w;
      first_stands = (within.0, first_between_lem p (values_of p) f t o w);
      second_stands = (within.1, second_between_lem p (values_of p) f t o m);
    }

-- the slot and the wrapped key are the two strings
module _ (c : Call) (p : List ℕ) (z : Texts) (both : BothTexts p z) (S : List SlotRow) (h : c.slots ≡ S) (d : Decision) (x : Supplement) (g : c.supplement ≡ x) where
  abbrev slot : List ℕ
  slot = bytes_in p z.first

  abbrev wrapped : List ℕ
  wrapped = bytes_in p z.second

  pub load_by : d ≡ decided (first_no (load_questions S c.registers x slot wrapped (slot_named slot S))) (Load (card_place (card_in wrapped) c.registers)) → d ≡ decision_for c KL (values_of p)
  load_by e = (rw (← h, ← g) at e) ∙ load_is c (values_of p) slot wrapped both.typed both.first_stands.1 both.second_stands.1

  -- once the record parses and is in form: what is asked then, of the slot's row
  abbrev load_later : SlotRow → List Question
  load_later row =
      (is_place (slot_place slot S) otherwise UnknownSlot)
      ∷ (has_state Loading row otherwise WrongState)
      ∷ store_questions c.registers x (card_in wrapped)

  module _ (t u : Bool) (o : not t ≡ false) (m : not u ≡ false) (q : t ≡ parses_key wrapped) (v : u ≡ key_in_form wrapped) where
    pub load_then : (row : SlotRow) → d ≡ decided (first_no (load_later row)) (Load (card_place (card_in wrapped) c.registers)) → row ≡ slot_named slot S → d ≡ decision_for c KL (values_of p)
    load_then row e at_row = load_by ((rw at_row at e) ∙ sym (rw (← q, not-false t o, ← v, not-false u m)))

    -- once the slot is found and its state tested: the rest was asked of the card, by the keys of the registers
    module _ (f : Place) (pl : place_of f ≡ slot_place slot S) (k : ℕ) (found : f ≡ At k) (b : Bool) (row : SlotRow) (is : b ≡ has_state Loading row) where
      pub load_state_no : b ≡ false → d ≡ Refuse WrongState → row ≡ slot_named slot S → d ≡ decision_for c KL (values_of p)
      load_state_no held e = load_then row (e ∙ sym (rw (← pl, found, ← is, held)))

      pub load_state_yes : b ≡ true → (keys : List ℕ) → AreKeys keys c.registers → (card : List ℕ) → card ≡ card_in wrapped
          → ((R : List RegisterRow) → AreKeys keys R → d ≡ decided (first_no (store_questions R x card)) (Load (card_place card R))) → row ≡ slot_named slot S → d ≡ decision_for c KL (values_of p)
      load_state_yes held keys keyed card same all = load_then row ((rw same at (all c.registers keyed)) ∙ sym (rw (← pl, found, ← is, held)))

-- the card v of a wrapped key that was found in form
module _ (r v : List ℕ) (e : v ≡ card_in r) (t : Bool) (o : not t ≡ false) where
  pub card_in_form : t ≡ key_in_form r → is_incoming v ≡ true
  unfolding key_in_form
  card_in_form w = ap is_incoming e ∙ and_first (is_incoming (card_in r)) _ (and_second (in_form HexSome (field bar 1 r)) _ (sym w ∙ not-false t o))

  pub card_values : (values : List Bounds) → (t ≡ true → AreValues values (card_in r)) → AreValues values v
  card_values values w = rw e (w (not-false t o))
