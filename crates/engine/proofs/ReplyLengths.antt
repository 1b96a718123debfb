-- How many bytes the fields of the replies take that tell of rows, where the rows are sound.
use mathlib.Core.Path.{◌≡◌, refl, ◌∙◌}
use mathlib.Core.Bool.{Bool, true, false, cond, not}
use mathlib.Core.List.{List, [], ◌∷◌, map}
use Prim.Native.Nat.{ℕ, suc, ◌+◌, ◌*◌, ◌≤◌}
use native.Mathlib.Omega.{arith}
use lib.Dec.{eqb, leb}
use lib.ListN.{length, length-append, length-take}
use borrow.Author.Tests.{leb-true, le-leb, eqb-true}
use Rattle.byte_strings.specs.Texts.{text}
use Rattle.byte_orders.specs.Orders.{is_before}
use Rattle.byte_orders.proofs.OrderLaws.{sort_perm, sort_length}
use Rattle.byte_strings.specs.Strings.{is_not, run}
use Rattle.byte_strings.proofs.Flags.{and_first, and_second, and_both}
use Rattle.text_classes.specs.Classes.{are_all}
use Rattle.text_classes.specs.declared.Class.TheVariants.{Hexadecimal}
use Rattle.text_classes.proofs.Identify.{name_short}
use Rattle.text_timestamps.proofs.Plain.{timestamp_length}
use Rattle.field_values.specs.Values.{Value, number, string, octets, payload_bytes}
use Rattle.field_writer.proofs.WriteLaws.{payload_append}
use Rattle.field_writer.proofs.Lengths.{string_length, octets_length, number_short, payload_length}
use Rattle.card_stored.specs.Stored.{is_stored}
use Rattle.row_types.specs.Lists.{every_row, trimmed, numbers_from}
use Rattle.row_types.specs.Slots.{has_state, kmcid_of, is_slot_sound}
use Rattle.row_types.specs.Registers.{is_vacant, is_under, is_register_sound}
use Rattle.row_types.specs.RowReplies.{stored_in, slot_names, name_fields, state_text, slot_fields, registers_under, number_fields, query_fields}
use Rattle.row_types.specs.declared.SlotRow.{SlotRow}
use Rattle.row_types.specs.declared.RegisterRow.{RegisterRow}
use Rattle.row_types.specs.declared.SlotState.TheVariants.{Free, Pending, Loading}
use Rattle.row_types.proofs.RowReplyLaws.{not_free, names_in, sound_kmcid, sound_fingerprint, sound_tvp, every_turned}

-- a string field and fields after it
pub after_string : (v : List ℕ) (vs : List Value) (a b : ℕ) → length v ≤ a → length (payload_bytes vs) ≤ b → length (payload_bytes (string v ∷ vs)) ≤ a + 2 + b
after_string v vs a b h k = omega (arith, payload_length (string v) vs, string_length v)

after_octets : (v : List ℕ) (vs : List Value) (a b : ℕ) → length v ≤ a → length (payload_bytes vs) ≤ b → length (payload_bytes (octets v ∷ vs)) ≤ a + 2 + b
after_octets v vs a b h k = omega (arith, payload_length (octets v) vs, octets_length v)

pub after_number : (n : ℕ) (vs : List Value) (b : ℕ) → length (payload_bytes vs) ≤ b → length (payload_bytes (number n ∷ vs)) ≤ 12 + b
after_number n vs b k = omega (arith, payload_length (number n) vs, number_short n)

-- SM?GA: the card of a filled row
pub stored_length : (r : RegisterRow) → is_register_sound r ≡ true → is_vacant r ≡ false → length (stored_in r) ≤ 256
unfolding is_register_sound trimmed is_stored
stored_length r h o =
    let e : is_stored r.card ≡ true = rw o at h in
    let n = eqb-true (length r.card) 256 (and_first (eqb (length r.card) 256) _ e) in
    omega (arith, length-take (run (is_not 0) r.card) r.card, n)

-- SM?GL: names of 40 bytes at most
abbrev is_short : List ℕ → Bool
is_short s = leb (length s) 40

names_length : (names : List (List ℕ)) → every_row is_short names ≡ true → length (payload_bytes (name_fields names)) ≤ 42 * length names
names_length [] e = omega arith
names_length (s ∷ ss) e =
    let h = leb-true (length s) 40 (and_first (is_short s) (every_row is_short ss) e) in
    let k = names_length ss (and_second (is_short s) (every_row is_short ss) e) in
    omega (arith, after_string s (name_fields ss) 40 (42 * length ss) h k)

names_short : (rows : List SlotRow) → every_row is_slot_sound rows ≡ true → (every_row is_short (names_in rows) ≡ true) × (length (names_in rows) ≤ length rows)
names_short [] e = (refl, omega arith)
names_short (r ∷ rs) e = go (has_state Free r) refl (names_short rs (and_second (is_slot_sound r) (every_row is_slot_sound rs) e))
  where
    go : (t : Bool) → has_state Free r ≡ t → (every_row is_short (map kmcid_of (not_free rs)) ≡ true) × (length (map kmcid_of (not_free rs)) ≤ length rs)
        → (every_row is_short (map kmcid_of (cond (not t) (r ∷ not_free rs) (not_free rs))) ≡ true) × (length (map kmcid_of (cond (not t) (r ∷ not_free rs) (not_free rs))) ≤ suc (length rs))
    go true q w = (w.0, omega (arith, w.1))
    go false q w =
        let n = name_short (kmcid_of r) (sound_kmcid r (and_first (is_slot_sound r) (every_row is_slot_sound rs) e) q) in
        (and_both (is_short (kmcid_of r)) (every_row is_short (map kmcid_of (not_free rs))) (le-leb (length (kmcid_of r)) 40 n) w.0, omega (arith, w.1))

pub listed_length : (rows : List SlotRow) → every_row is_slot_sound rows ≡ true → length (payload_bytes (name_fields (slot_names rows))) ≤ 42 * length rows
unfolding slot_names
listed_length rows e =
    let w = names_short rows e in
    let k : length (slot_names rows) ≡ length (names_in rows) = sort_length is_before (names_in rows) in
    omega (arith, names_length (slot_names rows) (every_turned is_short (sort_perm is_before (names_in rows)) ∙ w.0), w.1, k)

-- SM?KQ: what a row holds, and the numbers of its registers
state_length : (r : SlotRow) → length (state_text r) ≤ 7
unfolding state_text
state_length r = go (has_state Pending r) (has_state Loading r)
  where
    go : (p l : Bool) → length (cond p (text "PENDING") (cond l (text "LOADING") (text "ACTIVE"))) ≤ 7
    go true l = omega arith
    go false true = omega arith
    go false false = omega arith

module _ (r : SlotRow) (h : is_slot_sound r ≡ true) (o : has_state Free r ≡ false) where
  print_length : length r.fingerprint ≡ 16
  print_length = eqb-true (length r.fingerprint) 16 (and_first (eqb (length r.fingerprint) 16) (are_all Hexadecimal r.fingerprint) (sound_fingerprint r h o))

  abbrev held : Bool → List Value
  held p = octets (cond p [] r.fingerprint) ∷ string (cond p r.tvp []) ∷ octets (cond p r.fingerprint []) ∷ []

  held_length : (p : Bool) → has_state Pending r ≡ p → length (payload_bytes (held p)) ≤ 54
  held_length true q =
      let print = r.fingerprint in
      after_octets [] (string r.tvp ∷ octets print ∷ []) 16 36 (omega arith)
      (after_string r.tvp (octets print ∷ []) 16 18 (omega (arith, timestamp_length r.tvp (sound_tvp r h o q))) (after_octets print [] 16 0 (omega (arith, print_length)) (omega arith)))
  held_length false q =
      after_octets r.fingerprint (string [] ∷ octets [] ∷ []) 16 36 (omega (arith, print_length))
      (after_string [] (octets [] ∷ []) 16 18 (omega arith) (after_octets [] [] 16 0 (omega arith) (omega arith)))

  slot_length : length (payload_bytes (slot_fields r)) ≤ 107
  unfolding slot_fields
  slot_length =
      let rest = held (has_state Pending r) in
      after_string (state_text r) (string (kmcid_of r) ∷ string [] ∷ rest) 7 98 (state_length r)
      (after_string (kmcid_of r) (string [] ∷ rest) 40 56 (name_short (kmcid_of r) (sound_kmcid r h o)) (after_string [] rest 0 54 (omega arith) (held_length (has_state Pending r) refl)))

numbers_length : {A : Type 0} (f : A → Bool) (i : ℕ) (l : List A) → length (payload_bytes (number_fields (numbers_from f i l))) ≤ 12 * length l
numbers_length f i [] = omega arith
numbers_length f i (x ∷ xs) = go (f x) (numbers_length f (i + 1) xs)
  where
    go : (t : Bool) → length (payload_bytes (number_fields (numbers_from f (i + 1) xs))) ≤ 12 * length xs
        → length (payload_bytes (number_fields (cond t (i ∷ numbers_from f (i + 1) xs) (numbers_from f (i + 1) xs)))) ≤ 12 * suc (length xs)
    go true k = omega (arith, after_number i (number_fields (numbers_from f (i + 1) xs)) (12 * length xs) k)
    go false k = omega (arith, k)

pub query_length : (row : SlotRow) (registers : List RegisterRow) → is_slot_sound row ≡ true → has_state Free row ≡ false → length registers ≤ 32 → length (payload_bytes (query_fields row registers)) ≤ 491
unfolding query_fields
query_length row registers h o n =
    let numbers = number_fields (registers_under (kmcid_of row) registers) in
    rw (payload_append (slot_fields row) numbers)
    (omega (arith, length-append (payload_bytes (slot_fields row)) (payload_bytes numbers), slot_length row h o, numbers_length (is_under (kmcid_of row)) 1 registers, n))
