-- What is told of the slots at places, one after the other.
use Rattle.std.proofs.Common.{◌≡◌, ℕ, ◌+◌, ◌-◌, ◌*◌, ◌^◌, ◌<◌, ◌≤◌, List, [], ◌∷◌, ◌++◌, map, length, get_or, take, drop, refl, ap, ltb, ◌∙◌, arith}
use Rattle.std.proofs.lemmas.List.{map-append, take_more, take_all, length-drop}
use borrow.Author.Tests.{ltb-true}
use Rattle.byte_strings.specs.Wrote.{Wrote}
use Rattle.byte_strings.proofs.Writes.{then, none}
use Rattle.field_values.specs.Values.{string, field_bytes, payload_bytes}
use Rattle.field_writer.proofs.WriteLaws.{payload_append}
use Rattle.row_types.specs.Slots.{kmcid_of}
use Rattle.row_types.specs.Index.{kept_name}
use Rattle.row_types.specs.RowReplies.{slot_names, name_fields}
use Rattle.row_types.specs.declared.SlotRow.{SlotRow}
use Rattle.row_types.proofs.ListLaws.{every_at}
use Rattle.slot_order.specs.Sequences.{name_at, slot_sequence}
use Rattle.slot_order.proofs.SequenceLaws.{sequence_names, sequence_below, name_of}

-- the names of the slots at places
abbrev pub told : List SlotRow → List ℕ → List ℕ
told slots places = payload_bytes (name_fields (map (name_at (map kept_name slots)) places))

told_more : (slots : List SlotRow) (places : List ℕ) (i : ℕ) → i < length places → told slots (take (i + 1) places) ≡ told slots (take i places) ++ told slots (get_or places i 0 ∷ [])
told_more slots places i h =
    let name = name_at (map kept_name slots) in
    ap (told slots) (take_more places i 0 h)
    ∙ ap (λ (l : List (List ℕ)). payload_bytes (map string l)) (map-append name (take i places) (get_or places i 0 ∷ []))
    ∙ ap payload_bytes (map-append string (map name (take i places)) (name (get_or places i 0) ∷ []))
    ∙ payload_append (map string (map name (take i places))) (string (name (get_or places i 0)) ∷ [])

-- the places from f on
abbrev pub rest : List ℕ → ℕ → List ℕ
rest p f = take (length p - f) (drop f p)

-- the places p from f on are those of the slots by name
module _ (slots : List SlotRow) (n : ℕ) (p : List ℕ) (f : ℕ) (e : drop f p ≡ slot_sequence slots n) where
  in_order : rest p f ≡ slot_sequence slots n
  in_order = take_all (length p - f) (drop f p) (omega (arith, length-drop f p)) ∙ e

  pub all_told : (i : ℕ) → length (rest p f) ≤ i → {d g : List ℕ} {a b : ℕ} → Wrote d a (told slots (take i (rest p f))) g b
      → Wrote d a (payload_bytes (name_fields (slot_names (take n slots)))) g b
  all_told i h w =
      let t : told slots (take i (rest p f)) ≡ payload_bytes (name_fields (slot_names (take n slots))) =
      ap (told slots) (take_all i (rest p f) h ∙ in_order) ∙ ap (λ (l : List (List ℕ)). payload_bytes (name_fields l)) (sequence_names slots n) in
      rw (← t) w

  module _ (z : length slots ≡ 8) (m : n ≤ 8) (i : ℕ) where
    pub place_below : get_or (rest p f) i 0 < 8
    place_below = ltb-true (get_or (rest p f) i 0) 8 (every_at (λ k. ltb k 8) 0 refl (rest p f) (rw in_order (sequence_below slots n 8 z m)) i)

    -- where its row begins, a row having 73 bytes
    pub place_fits : get_or (rest p f) i 0 * 73 < 2 ^ 64
    place_fits = omega (arith, place_below)

    -- a turn
    pub name_told : i < length (rest p f) → (y : SlotRow) {d g h : List ℕ} {a b c : ℕ} → Wrote d a (told slots (take i (rest p f))) g b
        → Wrote g b (field_bytes (string (kmcid_of (get_or slots (get_or (rest p f) i 0) y)))) h c → Wrote d a (told slots (take (i + 1) (rest p f))) h c
    name_told l y {d} {g} {h} {a} {b} {c} v w =
        let k : get_or (rest p f) i 0 < length slots = omega (arith, place_below) in
        rw (told_more slots (rest p f) i l) (then v (then (rw (← name_of slots (get_or (rest p f) i 0) y k) at w) (none h c)))
