-- What is written as fields is read back as the same fields, one after the other.
use mathlib.Core.Path.{◌≡◌, refl, ap, ◌∙◌}
use mathlib.Core.Bool.{true}
use mathlib.Core.List.{List, [], ◌∷◌, ◌++◌, append_assoc}
use Prim.Native.Nat.{ℕ, ◌%◌, ◌^◌, ◌≤◌, ◌<◌}
use native.Mathlib.Omega.{arith}
use lib.Dec.{eqb}
use lib.ListN.{length}
use borrow.Author.Tests.{leb-true}
use Rattle.byte_strings.specs.Strings.{is_not, all_of}
use Rattle.byte_strings.proofs.Flags.{nope, and_first, and_second}
use Rattle.byte_pieces.proofs.PieceLaws.{pieces_cons, ended_cons}
use Rattle.text_classes.specs.Classes.{are_all}
use Rattle.text_classes.specs.declared.Class.TheVariants.{Digit, Text, Hexadecimal}
use Rattle.text_classes.proofs.ClassLaws.{class_plain}
use Rattle.text_decimal_writer.specs.Digits.{decimal_bytes}
use Rattle.text_decimal_writer.proofs.RoundTrip.{written_reads, written_number, written_digits}
use Rattle.text_timestamps.proofs.Plain.{date_plain}
use Rattle.field_values.specs.Values.{Value, number, string, date, octets, bad, is_octets, typed, value_of, values_of, content_bytes, field_bytes, payload_bytes, is_value, are_values}

-- a piece that holds no ~ is the first field
values_cons : (p r : List ℕ) → all_of (is_not 126) p ≡ true → values_of (p ++ (126 ∷ r)) ≡ value_of p ∷ values_of r
unfolding values_of
values_cons p r e = rw (pieces_cons 126 p r e, ended_cons 126 p r)

content_cons : (t : ℕ) (v r : List ℕ) → all_of (is_not 126) (t ∷ v) ≡ true → values_of (content_bytes t v ++ r) ≡ typed t v ∷ values_of r
unfolding content_bytes
content_cons t v r p =
    ap values_of (ap (λ (l : List ℕ). t ∷ l) (append_assoc v (126 ∷ []) r)) ∙ values_cons (t ∷ v) r p

plain : (t : ℕ) (v : List ℕ) → is_not 126 t ≡ true → all_of (is_not 126) v ≡ true → all_of (is_not 126) (t ∷ v) ≡ true
plain t v p q = rw (p, q)

octets_digits : (v : List ℕ) → is_octets v ≡ true → are_all Hexadecimal v ≡ true
unfolding is_octets
octets_digits v e = and_second (eqb (length v % 2) 0) _ e

-- THE LAW of one field: it is read as its value, whatever stands after it
pub field_read : (x : Value) (r : List ℕ) → is_value x ≡ true → values_of (field_bytes x ++ r) ≡ x ∷ values_of r
unfolding typed
field_read (number n) r e =
    let h : n ≤ 2147483647 = leb-true n 2147483647 e in
    let b : n < 10 ^ 10 = omega arith in
    content_cons 78 (decimal_bytes n) r (plain 78 (decimal_bytes n) refl (class_plain Digit 126 (decimal_bytes n) refl (written_digits n)))
    ∙ rw (written_number n b 0 2147483647 (omega arith) h, written_reads n b)
field_read (string v) r e = content_cons 80 v r (plain 80 v refl (class_plain Text 126 v refl e)) ∙ rw e
field_read (date v) r e = content_cons 68 v r (plain 68 v refl (date_plain v e 126 refl)) ∙ rw e
field_read (octets v) r e = content_cons 72 v r (plain 72 v refl (class_plain Hexadecimal 126 v refl (octets_digits v e))) ∙ rw e
field_read bad r e = nope (cc)

-- THE LAW of a payload: it is read as the fields that were written
pub payload_read : (vs : List Value) → are_values vs ≡ true → values_of (payload_bytes vs) ≡ vs
unfolding values_of
payload_read [] e = refl
payload_read (v ∷ vs) e =
    field_read v (payload_bytes vs) (and_first (is_value v) (are_values vs) e)
    ∙ ap (λ (l : List Value). v ∷ l) (payload_read vs (and_second (is_value v) (are_values vs) e))
