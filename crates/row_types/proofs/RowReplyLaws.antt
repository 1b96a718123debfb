-- What the commands that only read rows tell of sound rows, PTVD fields can carry.
use mathlib.Core.Path.{◌≡◌, refl, ap, ◌∙◌}
use mathlib.Core.Bool.{Bool, true, false, cond, not, ◌&&◌}
use mathlib.Core.List.{List, [], ◌∷◌, ◌++◌, map, Permᴰ}
use Prim.Native.Nat.{ℕ, ◌+◌, ◌≤◌}
use native.Mathlib.Omega.{arith}
use lib.Dec.{eqb, leb}
use lib.ListN.{length, drop}
use borrow.Author.Tests.{eqb-true, le-leb}
use Rattle.byte_strings.specs.Texts.{text}
use Rattle.byte_strings.specs.Strings.{is_not, run}
use Rattle.byte_strings.proofs.Flags.{and_first, and_second, and_both}
use Rattle.byte_orders.proofs.OrderLaws.{sort_perm}
use Rattle.text_classes.specs.Classes.{are_all}
use Rattle.text_classes.specs.Identifiers.{is_identifier}
use Rattle.text_classes.specs.declared.Class.TheVariants.{Text, Hexadecimal, Zero}
use Rattle.text_timestamps.specs.Timestamps.{is_timestamp}
use Rattle.field_values.specs.Values.{Value, string, octets, is_octets, is_value, are_values}
use Rattle.text_forms.specs.Forms.{in_form}
use Rattle.text_forms.specs.declared.Form.TheVariants.{Hex, Name, Timestamp}
use Rattle.text_forms.proofs.FormBounds.{in_form_text}
use Rattle.card_laws.proofs.StoredText.{stored_text}
use Rattle.byte_strings.specs.Lists.{rows_that}
use Rattle.row_types.specs.Lists.{every_row, trimmed, numbers_from}
use Rattle.row_types.specs.Slots.{is_zero_slot, has_state, kmcid_of, is_filled_slot, is_slot_sound}
use Rattle.row_types.specs.Registers.{is_vacant, is_under, is_register_sound}
use Rattle.row_types.specs.RowReplies.{stored_in, slot_names, name_fields, state_text, slot_fields, registers_under, number_fields, query_fields}
use Rattle.row_types.specs.declared.SlotRow.{SlotRow}
use Rattle.row_types.specs.declared.RegisterRow.{RegisterRow}
use Rattle.row_types.specs.declared.SlotState.TheVariants.{Free, Pending, Loading}

-- a sound row that is not free
module _ (r : SlotRow) (h : is_slot_sound r ≡ true) (o : has_state Free r ≡ false) where
  pub sound_filled : is_filled_slot r ≡ true
  unfolding is_slot_sound is_zero_slot
  sound_filled = and_second (leb r.state 3) _ (and_second (leb 1 r.state) _ (rw o at h))

  -- has an identifier,
  pub sound_kmcid : is_identifier (kmcid_of r) ≡ true
  unfolding is_filled_slot
  sound_kmcid = and_first (is_identifier (kmcid_of r)) _ sound_filled

  sound_rest : (in_form (Hex 16) r.fingerprint && cond (has_state Pending r) (is_timestamp r.tvp) (are_all Zero r.tvp)) ≡ true
  unfolding is_filled_slot
  sound_rest = and_second (are_all Zero (drop (run (is_not 0) r.kmcid) r.kmcid)) _ (and_second (is_identifier (kmcid_of r)) _ sound_filled)

  -- a fingerprint,
  pub sound_fingerprint : in_form (Hex 16) r.fingerprint ≡ true
  sound_fingerprint = and_first (in_form (Hex 16) r.fingerprint) (cond (has_state Pending r) (is_timestamp r.tvp) (are_all Zero r.tvp)) sound_rest

  -- and a timestamp where it is PENDING
  pub sound_tvp : has_state Pending r ≡ true → is_timestamp r.tvp ≡ true
  sound_tvp p = rw p at (and_second (in_form (Hex 16) r.fingerprint) (cond (has_state Pending r) (is_timestamp r.tvp) (are_all Zero r.tvp)) sound_rest)

-- names are told as strings
names_carried : (names : List (List ℕ)) → are_values (name_fields names) ≡ every_row (are_all Text) names
names_carried [] = refl
names_carried (s ∷ ss) = ap (λ (b : Bool). are_all Text s && b) (names_carried ss)

abbrev pub not_free : List SlotRow → List SlotRow
not_free rows = rows_that (λ (r : SlotRow). not (has_state Free r)) rows

-- the names, row by row
abbrev pub names_in : List SlotRow → List (List ℕ)
names_in rows = map kmcid_of (not_free rows)

names_text : (rows : List SlotRow) → every_row is_slot_sound rows ≡ true → every_row (are_all Text) (names_in rows) ≡ true
names_text [] e = refl
names_text (x ∷ xs) e = go (has_state Free x) refl (names_text xs (and_second (is_slot_sound x) (every_row is_slot_sound xs) e))
  where
    go : (t : Bool) → has_state Free x ≡ t → every_row (are_all Text) (map kmcid_of (not_free xs)) ≡ true → every_row (are_all Text) (map kmcid_of (cond (not t) (x ∷ not_free xs) (not_free xs))) ≡ true
    go true q rest = rest
    go false q rest = and_both (are_all Text (kmcid_of x)) _ (in_form_text Name (kmcid_of x) (sound_kmcid x (and_first (is_slot_sound x) (every_row is_slot_sound xs) e) q)) rest

-- what holds of every element holds of them in any sequence
module _ {A : Type 0} (f : A → Bool) where
  and_turned : (a b c : Bool) → (a && (b && c)) ≡ (b && (a && c))
  and_turned true b c = refl
  and_turned false true c = refl
  and_turned false false c = refl

  pub every_turned : {l m : List A} → Permᴰ l m → every_row f l ≡ every_row f m
  every_turned Permᴰ.nil = refl
  every_turned (Permᴰ.cons e d) = rw (ap f e, every_turned d)
  every_turned (Permᴰ.swap {a' = a} {b' = b} {l = l} p q) = rw (ap f p, ap f q) (and_turned (f b) (f a) (every_row f l))
  every_turned (Permᴰ.trans d e) = every_turned d ∙ every_turned e

-- SM?GL: the names of sound rows can be told
pub names_values : (rows : List SlotRow) → every_row is_slot_sound rows ≡ true → are_values (name_fields (slot_names rows)) ≡ true
unfolding slot_names
names_values rows e = names_carried (slot_names rows) ∙ every_turned (are_all Text) (sort_perm _ (names_in rows)) ∙ names_text rows e

-- SM?KQ: so can what a query tells of a sound row that is not free
values_append : (p q : List Value) → are_values p ≡ true → are_values q ≡ true → are_values (p ++ q) ≡ true
values_append [] q e g = g
values_append (v ∷ vs) q e g = and_both (is_value v) (are_values (vs ++ q)) (and_first (is_value v) (are_values vs) e) (values_append vs q (and_second (is_value v) (are_values vs) e) g)

numbers_values : {A : Type 0} (f : A → Bool) (i : ℕ) (l : List A) → i + length l ≤ 2147483648 → are_values (number_fields (numbers_from f i l)) ≡ true
numbers_values f i [] h = refl
numbers_values f i (x ∷ xs) h = go (f x) (numbers_values f (i + 1) xs (omega arith))
  where
    go : (t : Bool) → are_values (number_fields (numbers_from f (i + 1) xs)) ≡ true → are_values (number_fields (cond t (i ∷ numbers_from f (i + 1) xs) (numbers_from f (i + 1) xs))) ≡ true
    go true rest = and_both (leb i 2147483647) _ (le-leb i 2147483647 (omega arith)) rest
    go false rest = rest

state_text_lem : (r : SlotRow) → are_all Text (state_text r) ≡ true
unfolding state_text are_all
state_text_lem r = go (has_state Pending r) (has_state Loading r)
  where
    go : (p l : Bool) → are_all Text (cond p (text "PENDING") (cond l (text "LOADING") (text "ACTIVE"))) ≡ true
    go true l = refl
    go false true = refl
    go false false = refl

sixteen_octets : (v : List ℕ) → in_form (Hex 16) v ≡ true → is_octets v ≡ true
unfolding is_octets
sixteen_octets v e = rw (eqb-true (length v) 16 (and_first (eqb (length v) 16) (are_all Hexadecimal v) e), and_second (eqb (length v) 16) (are_all Hexadecimal v) e) refl

no_text : are_all Text [] ≡ true
unfolding are_all
no_text = refl

no_octets : is_octets [] ≡ true
unfolding is_octets are_all
no_octets = refl

slot_values : (r : SlotRow) → is_slot_sound r ≡ true → has_state Free r ≡ false → are_values (slot_fields r) ≡ true
unfolding slot_fields
slot_values r h o = rw (state_text_lem r, in_form_text Name (kmcid_of r) (sound_kmcid r h o)) (go (has_state Pending r) refl)
  where
    print : is_octets r.fingerprint ≡ true
    print = sixteen_octets r.fingerprint (sound_fingerprint r h o)

    go : (p : Bool) → has_state Pending r ≡ p → are_values (string [] ∷ octets (cond p [] r.fingerprint) ∷ string (cond p r.tvp []) ∷ octets (cond p r.fingerprint []) ∷ []) ≡ true
    go true q = rw (no_text, no_octets, in_form_text Timestamp r.tvp (sound_tvp r h o q), print)
    go false q = rw (no_text, no_octets, print)

pub query_values : (row : SlotRow) (registers : List RegisterRow) → is_slot_sound row ≡ true → has_state Free row ≡ false → length registers ≤ 32 → are_values (query_fields row registers) ≡ true
unfolding query_fields
query_values row registers h o n =
    values_append (slot_fields row) (number_fields (registers_under (kmcid_of row) registers)) (slot_values row h o) (numbers_values (is_under (kmcid_of row)) 1 registers (omega arith))

-- SM?GA: so can a card as stored, without its zeros
pub stored_values : (r : RegisterRow) → is_register_sound r ≡ true → is_vacant r ≡ false → are_all Text (stored_in r) ≡ true
unfolding is_register_sound trimmed
stored_values r h o = stored_text r.card (rw o at h)
