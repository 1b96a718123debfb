-- What each arm requires is known of its decision, and what it wrote are the decision's fields, or its response.
use mathlib.Core.Path.{◌≡◌, refl, ap, ◌∙◌}
use mathlib.Core.List.{List, [], ◌∷◌, ◌++◌}
use Prim.Native.Nat.{ℕ, ◌+◌, ◌*◌, ◌^◌, ◌≤◌, ◌<◌}
use native.Mathlib.Omega.{arith}
use types.Run.{OneOf, miss}
use denote.Enum.Declared.{tag_of}
use lib.ListN.{length, get_or, take, length-map, get_or-map}
use Rattle.byte_strings.specs.Wrote.{Wrote}
use Rattle.byte_strings.proofs.Writes.{none}
use Rattle.byte_bounds.specs.Bounds.{bytes_in, FitIn}
use Rattle.field_values.specs.Values.{number, string, field_bytes, payload_bytes}
use Rattle.message_frames.specs.Frames.{header_of, payload_of, ending, head_bytes}
use Rattle.message_replies.specs.Responses.{response_bytes}
use Rattle.row_types.specs.Lists.{trimmed, numbers_from}
use Rattle.row_types.specs.Slots.{free_slot}
use Rattle.row_types.specs.Slots as slot
use Rattle.row_types.specs.Registers.{is_under, free_register}
use Rattle.row_types.specs.RowReplies.{slot_fields, number_fields, query_fields}
use Rattle.row_types.specs.Supplements.{load_request}
use Rattle.row_types.specs.declared.SlotRow.{SlotRow}
use Rattle.row_types.specs.declared.RegisterRow.{RegisterRow}
use Rattle.row_types.specs.declared.Supplement.{Supplement}
use Rattle.row_types.specs.declared.Tables.{Tables}
use Rattle.row_types.proofs.PlaceCounts.{get_d_any}
use Rattle.row_index.specs.Found.{is_the}
use Rattle.row_index.specs.Lent.{row_with, rows_with, tables_with, tables_with_cards}
use Rattle.row_index.proofs.NumberLaws.{same_numbers}
use Rattle.response_refusals.specs.RefusalForms.{CanRefuse}
use Rattle.response_refusals.proofs.ReplyLaws.{replied, header_five}
use Rattle.response_fields.proofs.FieldsWritten.{one_field}
use Rattle.engine.specs.Requests.{fields_in}
use Rattle.engine.specs.Refusals.{refusal}
use Rattle.engine.specs.Answers.{accepted, response_of, refusal_reply}
use Rattle.engine.specs.declared.Decision.{Decision}
use Rattle.engine.specs.declared.Decision.TheVariants.{Refuse, Reset, Start, Open, Load, Close, DeleteSlot, DeleteKey, GetCard, ListSlots, QuerySlot}
use Rattle.engine.specs.declared.Refusal.{Refusal}
use Rattle.engine.specs.declared.Outcome.{Outcome}
use Rattle.engine.specs.declared.Outcome.TheVariants.{Done}
use Rattle.engine.specs.contracts.Decision.{the_type}
use Rattle.decide_parts.specs.Parts.{kmcid_of, card_of}
use Rattle.decide_parts.specs.declared.Parts.{Parts}
use Rattle.response_requests.specs.Responding.{outcome_for, fields_for, response_for, HasRoom, CanRespond}

pub outcome_arm : (d e : Decision) → d ≡ e → (o : Outcome) → o ≡ outcome_for e → o ≡ outcome_for d
outcome_arm d e p o q = rw p q

-- the commands that leave no slot state
abbrev stateless : List ℕ
stateless = 1 ∷ 7 ∷ 8 ∷ 9 ∷ 10 ∷ []

pub done_arm : (d : Decision) → OneOf stateless (tag_of the_type d) → Done ≡ outcome_for d
done_arm (Refuse r) o = absurd (miss stateless 0 tt o)
done_arm Reset o = refl
done_arm (Start k) o = absurd (miss stateless 2 tt o)
done_arm (Open k) o = absurd (miss stateless 3 tt o)
done_arm (Load k) o = absurd (miss stateless 4 tt o)
done_arm (Close k) o = absurd (miss stateless 5 tt o)
done_arm (DeleteSlot k) o = absurd (miss stateless 6 tt o)
done_arm (DeleteKey k) o = refl
done_arm (GetCard k) o = refl
done_arm ListSlots o = refl
done_arm (QuerySlot k) o = refl

-- what an arm of put_fields requires is known of its decision, and what it wrote are the decision's fields: p are the parts, at the place, r the place after
module _ (d : Decision) (p : Parts) (slots : List SlotRow) (n : ℕ) (rows : List RegisterRow) (m : ℕ) (owners : List ℕ) (x : Supplement) (q : List ℕ) (room : ℕ) (h : CanRespond d p (tables_with slots n rows m) owners x q room) where
  abbrev t : Tables
  t = tables_with slots n rows m

  module _ (k : ℕ) where
    -- s is the payload, v the part of it within the slot's bounds
    module _ (o : d ≡ Start k) (s : List ℕ) (i : s ≡ payload_of q) where
      pub start_part : FitIn (length s) p.slot
      start_part = rw i (rw o at h).1.0.0.0

      module _ (v : List ℕ) (j : v ≡ bytes_in s p.slot) where
        start_kmcid : v ≡ kmcid_of (fields_in q)
        start_kmcid = j ∙ rw i (rw o at h).1.0.0.1

        pub start_short : length v ≤ 40
        start_short = rw start_kmcid (rw o at h).1.1.0

        pub start_written : {a b : List ℕ} {at r : ℕ} → Wrote a at (payload_bytes (string v ∷ string (load_request x) ∷ [])) b r → Wrote a at (payload_bytes (fields_for d t x q)) b r
        start_written w = rw (o, ← start_kmcid) w

    pub start_request_lem : d ≡ Start k → x.request_length ≤ 700
    start_request_lem o = (rw o at h).1.1.1

    module _ (o : d ≡ Open k) (s : List ℕ) (i : s ≡ payload_of q) where
      pub open_part : FitIn (length s) p.slot
      open_part = rw i (rw o at h).1.0.0

      module _ (v : List ℕ) (j : v ≡ bytes_in s p.slot) where
        open_kmcid : v ≡ kmcid_of (fields_in q)
        open_kmcid = j ∙ rw i (rw o at h).1.0.1

        open_length : length v ≤ 40
        open_length = rw open_kmcid (rw o at h).1.1

        pub open_fits : (at l : ℕ) → at + 744 ≤ l → at + length v + 2 ≤ l
        open_fits at l g = omega (arith, open_length)

        pub open_short : (at r : ℕ) → r ≡ at + length v + 2 → r ≤ at + 744
        open_short at r e = omega (arith, open_length)

        pub open_written : {a b : List ℕ} {at r : ℕ} → Wrote a at (field_bytes (string v)) b r → Wrote a at (payload_bytes (fields_for d t x q)) b r
        open_written w = rw o (one_field (string (kmcid_of (fields_in q))) (rw (← open_kmcid) w))

    -- a card has 256 bytes
    module _ (o : d ≡ Load k) where
      pub load_place : k < 32
      load_place = (rw o at h).1.1

      pub load_in : (l : ℕ) → l ≡ 32 → k < l
      load_in l z = let g = load_place in omega arith

      pub load_fits : k * 256 < 2 ^ 64
      load_fits = let g = load_place in omega arith

    module _ (o : d ≡ GetCard k) where
      pub get_card_place : k < 32
      get_card_place = (rw o at h).1

      pub get_card_in : (l : ℕ) → l ≡ 32 → k < l
      get_card_in l z = let g = get_card_place in omega arith

      pub get_card_fits : k * 256 < 2 ^ 64
      get_card_fits = let g = get_card_place in omega arith

    module _ (o : d ≡ QuerySlot k) where
      pub query_slot_place : k < 8
      query_slot_place = (rw o at h).1.0

      -- a slot row has 73 bytes
      pub query_slot_fits : k * 73 < 2 ^ 64
      query_slot_fits = let g = query_slot_place in omega arith

      pub query_slot_sum : (j : ℕ) → j ≤ 8 → k + j < 2 ^ 64
      query_slot_sum j l = let g = query_slot_place in omega arith

      pub query_slot_count : m ≤ 32
      query_slot_count = (rw o at h).1.1.0

      pub query_slot_written : {a b : List ℕ} {at r : ℕ} (y : SlotRow) → length slots ≡ 8
          → Wrote a at (payload_bytes (slot_fields (get_or slots k y) ++ number_fields (numbers_from (is_the (k + 1)) 1 (take m owners)))) b r
          → Wrote a at (payload_bytes (fields_for d t x q)) b r
      unfolding query_fields
      query_slot_written y z w =
          let e = same_numbers (is_the (k + 1)) (is_under (slot.kmcid_of (get_or slots k free_slot))) 1 (take m owners) (take m rows) (rw o at h).1.1.1 in
          let g = query_slot_place in
          rw o (rw (e, get_d_any slots k y free_slot (omega arith)) at w)

  pub list_slots_count : d ≡ ListSlots → n ≤ 8
  list_slots_count o = (rw o at h).1

-- an arm whose callee speaks as the definition does
pub fields_arm : {a b : List ℕ} {at r : ℕ} (d e : Decision) (t : Tables) (x : Supplement) (q : List ℕ) → d ≡ e → Wrote a at (payload_bytes (fields_for e t x q)) b r → Wrote a at (payload_bytes (fields_for d t x q)) b r
fields_arm d e t x q o w = rw o w

-- the card at a place, as a row
card_at_lem : (cards : List (List ℕ)) (k : ℕ) → k < length cards → (y : List ℕ) (r : RegisterRow) → get_or (rows_with cards) k r ≡ row_with (get_or cards k y)
card_at_lem cards k h y r = get_d_any (rows_with cards) k r (row_with y) (rw (length-map cards row_with) h) ∙ get_or-map row_with cards k y

pub get_card_written : {a b : List ℕ} {at r : ℕ} (d : Decision) (slots : List SlotRow) (n m : ℕ) (x : Supplement) (q : List ℕ) (k : ℕ) (cards : List (List ℕ)) (y : List ℕ) → d ≡ GetCard k → length cards ≡ 32 → k < 32
    → Wrote a at (payload_bytes (string (trimmed (get_or cards k y)) ∷ [])) b r → Wrote a at (payload_bytes (fields_for d (tables_with_cards slots n cards m) x q)) b r
get_card_written d slots n m x q k cards y o z h w = rw (o, card_at_lem cards k (omega arith) y free_register) w

pub load_written : {a b : List ℕ} {at r : ℕ} (d : Decision) (p : Parts) (slots : List SlotRow) (n m : ℕ) (owners : List ℕ) (x : Supplement) (q : List ℕ) (room k : ℕ) (cards : List (List ℕ)) (y : List ℕ)
    → CanRespond d p (tables_with_cards slots n cards m) owners x q room → d ≡ Load k → length cards ≡ 32
    → Wrote a at (payload_bytes (number (k + 1) ∷ string (trimmed (get_or cards k y)) ∷ [])) b r → Wrote a at (payload_bytes (fields_for d (tables_with_cards slots n cards m) x q)) b r
load_written d p slots n m owners x q room k cards y h o z w =
    let g : k < 32 = (rw o at h).1.1 in
    let e : trimmed (get_or cards k y) ≡ card_of x (fields_in q) = rw (card_at_lem cards k (omega arith) y free_register) at (rw o at h).1.0 in
    rw o (rw e at w)

-- the decisions whose response has no field, and a refusal
abbrev bare_ones : List ℕ
bare_ones = 0 ∷ 1 ∷ 5 ∷ 6 ∷ 7 ∷ []

pub no_fields : (d : Decision) (t : Tables) (x : Supplement) (q a : List ℕ) (at : ℕ) → OneOf bare_ones (tag_of the_type d) → Wrote a at (payload_bytes (fields_for d t x q)) a at
no_fields (Refuse r) t x q a at o = none a at
no_fields Reset t x q a at o = none a at
no_fields (Start k) t x q a at o = absurd (miss bare_ones 2 tt o)
no_fields (Open k) t x q a at o = absurd (miss bare_ones 3 tt o)
no_fields (Load k) t x q a at o = absurd (miss bare_ones 4 tt o)
no_fields (Close k) t x q a at o = none a at
no_fields (DeleteSlot k) t x q a at o = none a at
no_fields (DeleteKey k) t x q a at o = none a at
no_fields (GetCard k) t x q a at o = absurd (miss bare_ones 8 tt o)
no_fields ListSlots t x q a at o = absurd (miss bare_ones 9 tt o)
no_fields (QuerySlot k) t x q a at o = absurd (miss bare_ones 10 tt o)

-- respond: a refusal, and the others
module _ (d : Decision) (p : Parts) (t : Tables) (owners : List ℕ) (x : Supplement) (q : List ℕ) (room : ℕ) (h : CanRespond d p t owners x q room) where
  module _ (r : Refusal) (o : d ≡ Refuse r) where
    pub refuse_room : CanRefuse (refusal r).header (length q) room
    refuse_room = rw o at h

    pub refused_written : {a b : List ℕ} {n : ℕ} → Wrote a 0 (response_of (refusal_reply q r)) b n → Wrote a 0 (response_for d t x q) b n
    refused_written w = rw o w

  -- the buffer keeps its length
  pub still_room : (k : ℕ) → k ≡ room → CanRespond d p t owners x q k
  still_room k e = rw e h

-- the decisions that are no refusal
abbrev accepted_ones : List ℕ
accepted_ones = 1 ∷ 2 ∷ 3 ∷ 4 ∷ 5 ∷ 6 ∷ 7 ∷ 8 ∷ 9 ∷ 10 ∷ []

-- they have room, and are answered with their fields
module _ (p : Parts) (t : Tables) (owners : List ℕ) (x : Supplement) (q : List ℕ) (room : ℕ) where
  accepted_so : (d : Decision) → CanRespond d p t owners x q room → OneOf accepted_ones (tag_of the_type d) → HasRoom (length q) room × (response_for d t x q ≡ response_bytes (header_of q) accepted (fields_for d t x q))
  accepted_so (Refuse r) h o = absurd (miss accepted_ones 0 tt o)
  accepted_so Reset h o = (h, refl)
  accepted_so (Start k) h o = (h.0, refl)
  accepted_so (Open k) h o = (h.0, refl)
  accepted_so (Load k) h o = (h.0, refl)
  accepted_so (Close k) h o = (h, refl)
  accepted_so (DeleteSlot k) h o = (h, refl)
  accepted_so (DeleteKey k) h o = (h, refl)
  accepted_so (GetCard k) h o = (h.0, refl)
  accepted_so ListSlots h o = (h.0, refl)
  accepted_so (QuerySlot k) h o = (h.0, refl)

-- s is the header of the request
module _ (d : Decision) (p : Parts) (t : Tables) (owners : List ℕ) (x : Supplement) (q : List ℕ) (room : ℕ) (h : CanRespond d p t owners x q room) (o : OneOf accepted_ones (tag_of the_type d)) (s : List ℕ) (i : s ≡ header_of q) where
  five : length s ≡ 5
  five = ap length i ∙ header_five q (accepted_so p t owners x q room d h o).0.0

  long : 1024 ≤ room
  long = (accepted_so p t owners x q room d h o).0.1

  pub head_long : 3 ≤ length s
  head_long = omega (arith, five)

  pub head_fits : length s + 2 ≤ room
  head_fits = omega (arith, five, long)

  module _ (a : ℕ) (e : a ≡ length s + 2) where
    pub fields_fit : (k : ℕ) → k ≡ room → a + 744 ≤ k
    fields_fit k z = omega (arith, five, long)

    module _ (b : ℕ) (l : b ≤ a + 744) where
      pub ending_fits : (j k : ℕ) → j ≡ room → k ≡ j → b + 5 ≤ k
      ending_fits j k y z = omega (arith, five, long)

      pub response_fits : (r : ℕ) → r ≡ b + 5 → r ≤ room
      response_fits r g = omega (arith, five, long)

      pub accepted_written : {u v w z : List ℕ} {r : ℕ} → room ≡ length u → Wrote u 0 (head_bytes s accepted) v a → Wrote v a (payload_bytes (fields_for d t x q)) w b → Wrote w b (ending (take b w)) z r
          → Wrote u 0 (response_for d t x q) z r
      accepted_written g y m n = rw ((accepted_so p t owners x q room d h o).1, ← i) (replied s accepted (fields_for d t x q) y m n (omega (arith, five, long)))
