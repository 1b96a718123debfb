-- The commands about slots and registers that bring no record: from what the code has read and found to the decision. c is any call over these rows, p the payload, l and n the places and the rows.
use mathlib.Core.Path.{◌≡◌, refl, sym, ◌∙◌}
use mathlib.Core.Bool.{Bool, true, false, cond, not, ◌||◌}
use mathlib.Core.List.{List}
use mathlib.Core.Option.{Option, none, some}
use Prim.Native.Nat.{ℕ, ◌-◌, ◌*◌, ◌^◌, ◌≤◌, ◌<◌}
use native.Mathlib.Omega.{arith}
use lib.ListN.{length, get_or, take, drop}
use lib.Seq.{length-take-le}
use borrow.Author.Tests.{not-true, not-false}
use Rattle.byte_strings.proofs.Flags.{nope}
use Rattle.field_values.specs.Values.{Value, values_of}
use Rattle.card_entries.specs.Entries.{between}
use Rattle.card_entries.specs.declared.Found.{Found}
use Rattle.card_entries.specs.declared.Found.TheVariants as found
use Rattle.message_commands.specs.declared.Command.TheVariants.{RS, KF, KX, KD, GA, GL, KQ}
use Rattle.decide_payloads.specs.Payloads.{text_in, number_in, count_in}
use Rattle.decide_payloads.specs.declared.Count.{Count}
use Rattle.decide_payloads.specs.declared.Count.TheVariants as count
use Rattle.decide_payloads.proofs.PayloadLaws.{text_absent, text_present, text_between, number_absent, number_present, number_is}
use Rattle.row_types.specs.Slots.{has_state, is_named, free_slot}
use Rattle.row_types.specs.Places.{place_of}
use Rattle.row_types.specs.declared.Place.{Place}
use Rattle.row_types.specs.declared.Place.TheVariants as place
use Rattle.row_types.specs.declared.SlotRow.{SlotRow}
use Rattle.row_types.specs.declared.RegisterRow.{RegisterRow}
use Rattle.row_types.specs.declared.SlotState.TheVariants.{Pending, Loading}
use Rattle.row_types.proofs.ListLaws as lists
use Rattle.engine.specs.Requests.{are_fields_of, first_text}
use Rattle.engine.specs.Questions.{Call, slot_place, place_in, is_place, is_filled, first_no}
use Rattle.engine.specs.Decisions.{decided, decision_for}
use Rattle.engine.specs.declared.Refusal.{Refusal}
use Rattle.engine.specs.declared.Refusal.TheVariants.{BadFields, UnknownSlot, EmptyRegister}
use Rattle.engine.specs.declared.Decision.{Decision}
use Rattle.engine.specs.declared.Decision.TheVariants.{Refuse, Reset, Close, DeleteSlot, DeleteKey, GetCard, ListSlots, QuerySlot}
use Rattle.decide_questions.specs.CommandQuestions.{plain_questions, session_questions, asked_of, slot_asked, register_asked, done_at}
use Rattle.decide_questions.specs.declared.Asked.{Asked}
use Rattle.decide_questions.specs.declared.Asked.TheVariants.{No, At}
use Rattle.decide_questions.proofs.Known.{place_in_lem, place_fits, row_named}
use Rattle.decide_questions.proofs.Flat.{reset_is, list_slots_is, close_is, delete_slot_is, query_slot_is, delete_key_is, get_card_is}

-- no field
module _ (c : Call) (vs : List Value) (d : Decision) where
  pub reset_by : d ≡ decided (first_no (plain_questions vs)) Reset → d ≡ decision_for c RS vs
  reset_by e = e ∙ reset_is c vs

  pub list_slots_by : d ≡ decided (first_no (plain_questions vs)) ListSlots → d ≡ decision_for c GL vs
  list_slots_by e = e ∙ list_slots_is c vs

-- the slot that was asked for
module _ (p : List ℕ) (f : Found) (w : between p f ≡ text_in (values_of p)) (S : List SlotRow) where
  pub slot_unread : f ≡ found.Nothing → No BadFields ≡ slot_asked S (values_of p)
  unfolding slot_asked
  slot_unread o = sym (rw (text_absent p (values_of p) f w o))

  module _ (a b : ℕ) (o : f ≡ found.At a b) (q : Place) (e : place_of q ≡ slot_place (take (b - a) (drop a p)) S) where
    slot_read : asked_of (cond (is_place (place_of q)) none (some UnknownSlot)) (place_in S (place_of q)) ≡ slot_asked S (values_of p)
    unfolding slot_asked
    slot_read = sym (rw (text_present p (values_of p) f w a b o, ← text_between p (values_of p) f w a b o, ← e) refl)

    pub slot_unknown : q ≡ place.Nothing → No UnknownSlot ≡ slot_asked S (values_of p)
    slot_unknown z = rw z at slot_read

    pub slot_known : (k : ℕ) → q ≡ place.At k → At k ≡ slot_asked S (values_of p)
    slot_known k z = rw z at slot_read

-- the register that was asked for
module _ (vs : List Value) (f : Count) (w : count_in f ≡ number_in vs) (R : List RegisterRow) where
  pub register_unread : f ≡ count.Nothing → No BadFields ≡ register_asked R vs
  unfolding register_asked
  register_unread o = sym (rw (number_absent vs f w o))

  module _ (n : ℕ) (o : f ≡ count.Is n) (t : Bool) (e : t ≡ is_filled n R) where
    register_read : asked_of (cond t none (some EmptyRegister)) (n - 1) ≡ register_asked R vs
    unfolding register_asked
    register_read = sym (rw (number_present vs f w n o, ← number_is vs f w n o, ← e) refl)

    pub register_empty : not t ≡ true → No EmptyRegister ≡ register_asked R vs
    register_empty z = rw (not-true t z) at register_read

    pub register_filled : not t ≡ false → At (n - 1) ≡ register_asked R vs
    register_filled z = rw (not-false t z) at register_read

-- what is to be done there
module _ (c : Call) (vs : List Value) (d : Decision) where
  module _ (l : List SlotRow) (h : c.slots ≡ l) where
    pub delete_slot_by : d ≡ done_at DeleteSlot (slot_asked l vs) → d ≡ decision_for c KX vs
    delete_slot_by e = (rw (← h) at e) ∙ delete_slot_is c vs

    pub query_slot_by : d ≡ done_at QuerySlot (slot_asked l vs) → d ≡ decision_for c KQ vs
    query_slot_by e = (rw (← h) at e) ∙ query_slot_is c vs

  pub delete_key_by : d ≡ done_at DeleteKey (register_asked c.registers vs) → d ≡ decision_for c KD vs
  delete_key_by e = e ∙ delete_key_is c vs

  pub get_card_by : d ≡ done_at GetCard (register_asked c.registers vs) → d ≡ decision_for c GA vs
  get_card_by e = e ∙ get_card_is c vs

-- SM?KF: a slot that was found is asked for its session
place_asked : (S : List SlotRow) (vs : List Value) (k : ℕ) → slot_asked S vs ≡ At k → slot_place (first_text vs) S ≡ some k
unfolding slot_asked
place_asked S vs k = go (are_fields_of KF vs) (slot_place (first_text vs) S)
  where
    go : (b : Bool) (o : Option ℕ) → asked_of (cond b (cond (is_place o) none (some UnknownSlot)) (some BadFields)) (place_in S o) ≡ At k → o ≡ some k
    go true (some i) e = cc
    go true none e = nope (cc)
    go false o e = nope (cc)

module _ (l : List SlotRow) (n : ℕ) (vs : List Value) (a : Asked) (w : a ≡ slot_asked (take n l) vs) where
  pub close_refused : (c : Call) → c.slots ≡ take n l → (r : Refusal) → a ≡ No r → Refuse r ≡ decision_for c KF vs
  close_refused c g r o = let q : slot_asked c.slots vs ≡ No r = rw g (sym w ∙ o) in rw q at (close_is c vs)

  module _ (z : length l ≡ 8) (h : n ≤ 8) (k : ℕ) (o : a ≡ At k) where
    slot_at : slot_place (first_text vs) (take n l) ≡ some k
    slot_at = place_asked (take n l) vs k (sym w ∙ o)

    slot_below : k < n
    slot_below = rw (length-take-le n l (omega arith)) at (lists.found (is_named (first_text vs)) free_slot (take n l) k slot_at).0

    pub slot_in_lem : k < 8
    slot_in_lem = place_in_lem n 8 (place.At k) k slot_below refl h

    pub slot_fits : k * 73 < 2 ^ 64
    slot_fits = place_fits n (place.At k) k slot_below refl h

    pub close_by : (c : Call) → c.slots ≡ take n l → (t : Bool) (y : SlotRow) → t ≡ (has_state Pending (get_or l k y) || has_state Loading (get_or l k y)) → (d : Decision)
        → d ≡ decided (first_no (session_questions (get_or l k y))) (Close k) → d ≡ decision_for c KF vs
    close_by c g t y m d e =
        let q : slot_asked c.slots vs ≡ At k = rw g (sym w ∙ o) in
        (rw (row_named l n k (first_text vs) y z h slot_below slot_at, ← g) at e) ∙ (rw q at (close_is c vs))
