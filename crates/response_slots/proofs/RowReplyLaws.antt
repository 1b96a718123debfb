-- The six fields of a slot in four writes.
use Rattle.std.proofs.Common.{◌≡◌, ℕ, Bool, true, false, List, [], ◌∷◌, ◌++◌}
use Rattle.byte_strings.specs.Wrote.{Wrote}
use Rattle.byte_strings.proofs.Writes.{then}
use Rattle.field_values.specs.Values.{Value, string, octets, field_bytes, payload_bytes}
use Rattle.field_writer.proofs.WriteLaws.{payload_append}
use Rattle.row_types.specs.Slots.{has_state, kmcid_of}
use Rattle.row_types.specs.RowReplies.{state_text, slot_fields}
use Rattle.row_types.specs.declared.SlotRow.{SlotRow}
use Rattle.row_types.specs.declared.SlotState.TheVariants.{Pending}

-- two fields, and fields after them
fields_then : {d e f : List ℕ} {a b c : ℕ} (us vs : List Value) → Wrote d a (payload_bytes us) e b → Wrote e b (payload_bytes vs) f c → Wrote d a (payload_bytes (us ++ vs)) f c
fields_then us vs v w = rw (payload_append us vs) (then v w)

-- p is whether the slot is PENDING
module _ (r : SlotRow) (p : Bool) (q : p ≡ has_state Pending r) (d f g h k : List ℕ) (at a b c x : ℕ)
    (u : Wrote d at (field_bytes (string (state_text r))) f a)
    (v : Wrote f a (field_bytes (string (kmcid_of r))) g b) where
  pub pending_told : p ≡ true → Wrote g b (payload_bytes (string [] ∷ octets [] ∷ [])) h c
      → Wrote h c (payload_bytes (string r.tvp ∷ octets r.fingerprint ∷ [])) k x → Wrote d at (payload_bytes (slot_fields r)) k x
  unfolding slot_fields
  pending_told e w y = rw (← q, e) (then u (then v (fields_then (string [] ∷ octets [] ∷ []) (string r.tvp ∷ octets r.fingerprint ∷ []) w y)))

  pub other_told : p ≡ false → Wrote g b (payload_bytes (string [] ∷ octets r.fingerprint ∷ [])) h c
      → Wrote h c (payload_bytes (string [] ∷ octets [] ∷ [])) k x → Wrote d at (payload_bytes (slot_fields r)) k x
  unfolding slot_fields
  other_told e w y = rw (← q, e) (then u (then v (fields_then (string [] ∷ octets r.fingerprint ∷ []) (string [] ∷ octets [] ∷ []) w y)))
