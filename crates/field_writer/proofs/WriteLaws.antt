-- What the writes of fields come to.
use mathlib.Core.Path.{◌≡◌, refl, sym, ap, ◌∙◌}
use mathlib.Core.List.{List, [], ◌∷◌, ◌++◌, append_assoc}
use Prim.Native.Nat.{ℕ}
use Rattle.byte_strings.specs.Wrote.{Wrote}
use Rattle.byte_strings.proofs.Writes.{then}
use Rattle.field_values.specs.Values.{Value, content_bytes, field_bytes, payload_bytes}

-- put_content, put_number
pub content_written : {d e f g v : List ℕ} {a b c r k : ℕ} → Wrote d a (k ∷ []) e b → Wrote e b v f c → Wrote f c (126 ∷ []) g r → Wrote d a (content_bytes k v) g r
unfolding content_bytes
content_written u v w = then u (then v w)

-- fields, and fields after them
pub payload_append : (us vs : List Value) → payload_bytes (us ++ vs) ≡ payload_bytes us ++ payload_bytes vs
payload_append [] vs = refl
payload_append (u ∷ us) vs = ap (λ (l : List ℕ). field_bytes u ++ l) (payload_append us vs) ∙ sym (append_assoc (field_bytes u) (payload_bytes us) (payload_bytes vs))
