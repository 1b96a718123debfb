-- A row as it is printed: its line is in form, and sets the row.
use mathlib.Core.Path.{◌≡◌, refl, ap, ◌∙◌}
use mathlib.Core.Bool.{true}
use mathlib.Core.List.{List, ◌∷◌, ◌++◌}
use Prim.Native.Nat.{ℕ, ◌+◌, ◌-◌, ◌<◌}
use native.Mathlib.Nat.{add-zero}
use native.Mathlib.Omega.{arith}
use lib.Dec.{eqb}
use lib.ListN.{length, take, drop, replicate}
use lib.Seq.{take-append_seam, drop-append-add, take_at}
use borrow.Author.Tests.{eq-eqb}
use Rattle.byte_strings.specs.Strings.{is_not, run, all_of}
use Rattle.byte_strings.proofs.Flags.{and_both}
use Rattle.byte_strings.proofs.StringLaws.{is_byte, all_run}
use Rattle.text_classes.specs.Classes.{are_all}
use Rattle.text_classes.specs.declared.Class.TheVariants.{Hexadecimal}
use Rattle.text_classes.proofs.ClassLaws.{class_plain}
use Rattle.text_decimals.specs.Decimals.{decimal}
use Rattle.text_decimal_writer.specs.Digits.{decimal_bytes}
use Rattle.text_decimal_writer.proofs.RoundTrip.{written_reads}
use Rattle.text_forms.specs.Forms.{in_form}
use Rattle.text_forms.specs.declared.Form.TheVariants.{Hex}
use Rattle.row_types.specs.Lists.{padded}
use Rattle.row_types.specs.declared.SlotRow.{SlotRow}
use Rattle.row_types.specs.declared.RegisterRow.{RegisterRow}
use Rattle.console_octets.specs.Octets.{digits_of, octets_of}
use Rattle.console_octets.proofs.OctetLaws.{digits_length}
use Rattle.console_octets.proofs.RoundTrip.{octets_back, digits_hexadecimal}
use Rattle.console_words.specs.Words.{word, rest}
use Rattle.console_forms.specs.LineForms.{has_byte, is_slot_row, is_slot, is_register}
use Rattle.console_tables.specs.RowLines.{slot_of, register_of}
use Rattle.console_tables.proofs.WrittenNumbers.{written_in, number_plain}

-- n bytes
pub record Filled (n : ℕ) (s : List ℕ) : Type 0 where
  pub count : length s ≡ n
  pub bytes : all_of is_byte s ≡ true

module _ (n : ℕ) (s : List ℕ) (f : Filled n s) where
  -- their digits are read as the bytes,
  read_back : padded n (octets_of (digits_of s)) ≡ s
  unfolding padded
  read_back = rw (octets_back s f.bytes) (take_at s (replicate n 0) n f.count)

  -- are twice as many,
  in_hex : (m : ℕ) → m ≡ n + n → in_form (Hex m) (digits_of s) ≡ true
  in_hex m e =
      and_both
      (eqb (length (digits_of s)) m)
      (are_all Hexadecimal (digits_of s))
      (eq-eqb (length (digits_of s)) m (omega (arith, digits_length s, f.count)))
      (digits_hexadecimal s f.bytes)

  -- and are a word
  plain : all_of (is_not 32) (digits_of s) ≡ true
  plain = class_plain Hexadecimal 32 (digits_of s) refl (digits_hexadecimal s f.bytes)

-- a word before others
module _ (w q : List ℕ) (p : all_of (is_not 32) w ≡ true) where
  ends : run (is_not 32) (w ++ 32 ∷ q) ≡ length w
  ends = all_run (is_not 32) w (32 ∷ q) p ∙ add-zero (length w)

  first_word : word (w ++ 32 ∷ q) ≡ w
  unfolding word
  first_word = ap (λ (m : ℕ). take m (w ++ 32 ∷ q)) ends ∙ take-append_seam w (32 ∷ q)

  after_it : rest (w ++ 32 ∷ q) ≡ q
  unfolding rest
  after_it = ap (λ (m : ℕ). drop (m + 1) (w ++ 32 ∷ q)) ends ∙ drop-append-add w (32 ∷ q) 1

-- the number of the row in place k and that of a byte, before other words
abbrev numbered : ℕ → ℕ → List ℕ → List ℕ
numbered k b q = decimal_bytes (k + 1) ++ 32 ∷ (decimal_bytes b ++ 32 ∷ q)

module _ (k b : ℕ) (q : List ℕ) where
  row_word : word (numbered k b q) ≡ decimal_bytes (k + 1)
  row_word = first_word (decimal_bytes (k + 1)) (decimal_bytes b ++ 32 ∷ q) (number_plain (k + 1))

  after_row : rest (numbered k b q) ≡ decimal_bytes b ++ 32 ∷ q
  after_row = after_it (decimal_bytes (k + 1)) (decimal_bytes b ++ 32 ∷ q) (number_plain (k + 1))

  byte_word : word (rest (numbered k b q)) ≡ decimal_bytes b
  byte_word = ap word after_row ∙ first_word (decimal_bytes b) q (number_plain b)

  after_byte : rest (rest (numbered k b q)) ≡ q
  after_byte = ap rest after_row ∙ after_it (decimal_bytes b) q (number_plain b)

  row_back : k < 32 → decimal (word (numbered k b q)) ≡ k + 1
  row_back h = ap decimal row_word ∙ written_reads (k + 1) (omega arith)

  module _ (h : b < 256) where
    byte_back : decimal (word (rest (numbered k b q))) ≡ b
    byte_back = ap decimal byte_word ∙ written_reads b (omega arith)

    byte_there : has_byte (numbered k b q) ≡ true
    byte_there = rw byte_word (written_in 2 0 255 b (omega arith) (omega arith) (omega arith) (omega arith))

-- NAME FINGERPRINT TVP of a row
abbrev fields : SlotRow → List ℕ
fields r = digits_of r.kmcid ++ 32 ∷ (digits_of r.fingerprint ++ 32 ∷ digits_of r.tvp)

-- what stands after the first word of the line of the slot row in place k
abbrev pub slot_words : ℕ → SlotRow → List ℕ
slot_words k r = numbered k r.state (fields r)

module _ (r : SlotRow) (c : Filled 40 r.kmcid) (f : Filled 16 r.fingerprint) (t : Filled 16 r.tvp) where
  second : rest (fields r) ≡ digits_of r.fingerprint ++ 32 ∷ digits_of r.tvp
  second = after_it (digits_of r.kmcid) (digits_of r.fingerprint ++ 32 ∷ digits_of r.tvp) (plain 40 r.kmcid c)

  name_word : word (fields r) ≡ digits_of r.kmcid
  name_word = first_word (digits_of r.kmcid) (digits_of r.fingerprint ++ 32 ∷ digits_of r.tvp) (plain 40 r.kmcid c)

  fingerprint_word : word (rest (fields r)) ≡ digits_of r.fingerprint
  fingerprint_word = ap word second ∙ first_word (digits_of r.fingerprint) (digits_of r.tvp) (plain 16 r.fingerprint f)

  tvp_word : rest (rest (fields r)) ≡ digits_of r.tvp
  tvp_word = ap rest second ∙ after_it (digits_of r.fingerprint) (digits_of r.tvp) (plain 16 r.fingerprint f)

  fields_accepted : is_slot_row (fields r) ≡ true
  fields_accepted = rw (name_word, fingerprint_word, tvp_word, in_hex 40 r.kmcid c 80 refl, in_hex 16 r.fingerprint f 32 refl, in_hex 16 r.tvp t 32 refl)

  fields_back : slot_of r.state (fields r) ≡ r
  unfolding slot_of
  fields_back = rw (name_word, fingerprint_word, tvp_word, read_back 40 r.kmcid c, read_back 16 r.fingerprint f, read_back 16 r.tvp t)

  -- THE LAWS: they are in form,
  module _ (k : ℕ) (h : k < 8) (s : r.state < 256) where
    pub slot_accepted : is_slot (slot_words k r) ≡ true
    slot_accepted = rw (row_word k r.state (fields r), written_in 0 1 8 (k + 1) (omega arith) (omega arith) (omega arith) (omega arith), byte_there k r.state (fields r) s, after_byte k r.state (fields r), fields_accepted)

    -- name the place, and set the row;
    pub slot_place_lem : decimal (word (slot_words k r)) - 1 ≡ k
    slot_place_lem = omega (arith, row_back k r.state (fields r) (omega arith))

    pub slot_back : slot_of (decimal (word (rest (slot_words k r)))) (rest (rest (slot_words k r))) ≡ r
    slot_back = rw (byte_back k r.state (fields r) s, after_byte k r.state (fields r)) fields_back

-- and so of a register row, with its mark (document 02, N3)
abbrev pub register_words : ℕ → RegisterRow → List ℕ
register_words k r = numbered k r.mark (digits_of r.card)

module _ (r : RegisterRow) (c : Filled 256 r.card) where
  card_back : register_of r.mark (digits_of r.card) ≡ r
  unfolding register_of
  card_back = rw (read_back 256 r.card c)

  module _ (k : ℕ) (h : k < 32) (s : r.mark < 256) where
    pub register_accepted : is_register (register_words k r) ≡ true
    register_accepted = rw (row_word k r.mark (digits_of r.card), written_in 1 1 32 (k + 1) (omega arith) (omega arith) (omega arith) (omega arith), byte_there k r.mark (digits_of r.card) s, after_byte k r.mark (digits_of r.card), in_hex 256 r.card c 512 refl)

    pub register_place : decimal (word (register_words k r)) - 1 ≡ k
    register_place = omega (arith, row_back k r.mark (digits_of r.card) h)

    pub register_back : register_of (decimal (word (rest (register_words k r)))) (rest (rest (register_words k r))) ≡ r
    register_back = rw (byte_back k r.mark (digits_of r.card) s, after_byte k r.mark (digits_of r.card)) card_back
