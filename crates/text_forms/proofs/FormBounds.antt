-- A value in form is made of bytes that a card's value may hold: so it holds no semicolon and is text; and it is at most so long.
use mathlib.Core.Path.{◌≡◌, refl, sym, ◌∙◌}
use mathlib.Core.Bool.{Bool, true, false, ◌&&◌, ◌||◌}
use mathlib.Core.List.{List, [], ◌∷◌}
use mathlib.Core.Logic.{◌⊎◌, inl, inr, ⊎_elim}
use Prim.Native.Nat.{ℕ, ◌≤◌}
use native.Mathlib.Omega.{arith}
use lib.Dec.{leb, eqb}
use lib.ListN.{length}
use borrow.Author.Tests.{eqb-true, eq-eqb, leb-true}
use Rattle.byte_strings.specs.Strings.{all_of, is_not, same_bytes}
use Rattle.byte_strings.specs.Texts.{text}
use Rattle.byte_strings.proofs.Flags.{nope, and_first, and_second, and_both, or_cases}
use Rattle.byte_strings.proofs.StringLaws.{all_wider, same_equal}
use Rattle.text_classes.specs.Classes.{within, is_alphanumeric, is_mark, is_of, are_all}
use Rattle.text_classes.specs.declared.Class.TheVariants.{Digit, Hexadecimal, Identifier, Text, Value}
use Rattle.text_classes.proofs.Printable.{wider}
use Rattle.text_classes.proofs.ClassLaws.{class_plain}
use Rattle.text_classes.proofs.Identify.{name_short, name_bytes_lem}
use Rattle.text_decimals.specs.Decimals.{is_number}
use Rattle.text_decimals.proofs.NumberLaws.{number_short, number_digits}
use Rattle.text_timestamps.specs.Timestamps.{is_timestamp}
use Rattle.text_timestamps.proofs.Plain.{timestamp_length, timestamp_plain}
use Rattle.text_forms.specs.Forms.{is_algorithm, in_form}
use Rattle.text_forms.specs.declared.Form.{Form}
use Rattle.text_forms.specs.declared.Form.TheVariants.{Timestamp, Algorithm, Number, Digits, Hex, HexSome, Name, Empty, Label}

-- classes within classes
digit_identifier : (b : ℕ) → is_of Digit b ≡ true → is_of Identifier b ≡ true
unfolding is_alphanumeric
digit_identifier b e = rw e

capital_identifier : (b : ℕ) (t : Bool) → within b 48 57 ≡ t → within b 65 90 ≡ true → is_of Identifier b ≡ true
unfolding is_alphanumeric
capital_identifier b true p e = rw p
capital_identifier b false p e = rw (p, e)

hex_identifier : (b : ℕ) → is_of Hexadecimal b ≡ true → is_of Identifier b ≡ true
hex_identifier b e =
    ⊎_elim
    (digit_identifier b)
    (λ (q : within b 65 70 ≡ true). capital_identifier b (within b 48 57) refl (wider b 65 70 65 90 (omega arith) (omega arith) q))
    (or_cases (within b 48 57) (within b 65 70) e)

alphanumeric_text : (b : ℕ) → is_alphanumeric b ≡ true → is_of Text b ≡ true
unfolding is_alphanumeric
alphanumeric_text b e =
    ⊎_elim
    (wider b 48 57 32 125 (omega arith) (omega arith))
    (λ (q : (within b 65 90 || within b 97 122) ≡ true). ⊎_elim (wider b 65 90 32 125 (omega arith) (omega arith)) (wider b 97 122 32 125 (omega arith) (omega arith)) (or_cases (within b 65 90) (within b 97 122) q))
    (or_cases (within b 48 57) (within b 65 90 || within b 97 122) e)

mark_text : (b : ℕ) → is_mark b ≡ true → is_of Text b ≡ true
unfolding is_mark
mark_text b e =
    ⊎_elim
    (λ (q : eqb b 95 ≡ true). rw (eqb-true b 95 q))
    (wider b 44 46 32 125 (omega arith) (omega arith))
    (or_cases (eqb b 95) (within b 44 46) e)

identifier_text : (b : ℕ) → is_of Identifier b ≡ true → is_of Text b ≡ true
identifier_text b e = ⊎_elim (alphanumeric_text b) (mark_text b) (or_cases (is_alphanumeric b) (is_mark b) e)

-- what holds no byte outside a class is of the class
all_but : (f : ℕ → Bool) (v : List ℕ) → ((d : ℕ) → f d ≡ false → all_of (is_not d) v ≡ true) → all_of f v ≡ true
all_but f [] h = refl
all_but f (b ∷ bs) h =
    and_both (f b) (all_of f bs) (first (f b) refl) (all_but f bs (λ d e. and_second (is_not d b) (all_of (is_not d) bs) (h d e)))
  where
    first : (t : Bool) → f b ≡ t → t ≡ true
    first true e = refl
    first false e =
        let p : is_not b b ≡ true = and_first (is_not b b) (all_of (is_not b) bs) (h b e) in
        let q : is_not b b ≡ false = rw (eq-eqb b b refl) in
        sym q ∙ p

-- a timestamp: digits, T and Z
module _ (d : ℕ) (e : is_of Identifier d ≡ false) where
  no_digit : (t : Bool) → is_of Digit d ≡ t → t ≡ false
  no_digit false p = refl
  no_digit true p = let q : is_of Identifier d ≡ true = digit_identifier d p in nope (cc)

  no_other : (b : ℕ) → are_all Identifier (b ∷ []) ≡ true → is_not d b ≡ true
  no_other b p = and_first (is_not d b) true (class_plain Identifier d (b ∷ []) e p)

  stamp_other : (v : List ℕ) → is_timestamp v ≡ true → all_of (is_not d) v ≡ true
  unfolding are_all is_alphanumeric
  stamp_other v p = timestamp_plain v p d (no_digit (is_of Digit d) refl) (no_other 84 refl) (no_other 90 refl)

stamp_bytes : (v : List ℕ) → is_timestamp v ≡ true → are_all Identifier v ≡ true
unfolding are_all
stamp_bytes v p = all_but (is_of Identifier) v (λ d e. stamp_other d e v p)

-- 02 or 04
pub algorithm_is : (v : List ℕ) → is_algorithm v ≡ true → (v ≡ text "02") ⊎ (v ≡ text "04")
unfolding is_algorithm
algorithm_is v e =
    ⊎_elim (λ p. inl (same_equal v (text "02") p)) (λ p. inr (same_equal v (text "04") p)) (or_cases (same_bytes v (text "02")) (same_bytes v (text "04")) e)

-- every byte of a value in a form other than a label is one that an identifier may hold
module _ (v : List ℕ) where
  of_digits : are_all Digit v ≡ true → are_all Identifier v ≡ true
  unfolding are_all
  of_digits e = all_wider (is_of Digit) (is_of Identifier) digit_identifier v e

  of_hex : are_all Hexadecimal v ≡ true → are_all Identifier v ≡ true
  unfolding are_all
  of_hex e = all_wider (is_of Hexadecimal) (is_of Identifier) hex_identifier v e

  of_algorithm : is_algorithm v ≡ true → are_all Identifier v ≡ true
  unfolding are_all is_alphanumeric
  of_algorithm e = ⊎_elim (λ (p : v ≡ text "02"). rw p) (λ (p : v ≡ text "04"). rw p) (algorithm_is v e)

  of_nothing : length v ≡ 0 → are_all Identifier v ≡ true
  unfolding are_all
  of_nothing e = nothing v e
    where
      nothing : (l : List ℕ) → length l ≡ 0 → all_of (is_of Identifier) l ≡ true
      nothing [] p = refl
      nothing (b ∷ bs) p = absurd (omega arith)

-- so it may stand as a value in a card; a label is made of the bytes that may
no_semicolon : is_of Identifier 59 ≡ false
unfolding is_alphanumeric is_mark
no_semicolon = refl

no_bar : is_of Identifier 124 ≡ false
unfolding is_alphanumeric is_mark
no_bar = refl

identifier_value : (b : ℕ) → is_of Identifier b ≡ true → is_of Value b ≡ true
unfolding are_all
identifier_value b e =
    let i : are_all Identifier (b ∷ []) ≡ true = rw e in
    and_both (is_not 59 b) (is_not 124 b && within b 32 125) (no_other 59 no_semicolon b i) (and_both (is_not 124 b) (within b 32 125) (no_other 124 no_bar b i) (identifier_text b e))

as_value : (v : List ℕ) → are_all Identifier v ≡ true → are_all Value v ≡ true
unfolding are_all
as_value v e = all_wider (is_of Identifier) (is_of Value) identifier_value v e

pub in_form_value : (f : Form) (v : List ℕ) → in_form f v ≡ true → are_all Value v ≡ true
in_form_value Timestamp v e = as_value v (stamp_bytes v e)
in_form_value Algorithm v e = as_value v (of_algorithm v e)
in_form_value (Number digits low high) v e = as_value v (of_digits v (number_digits digits low high v (and_second (leb digits 10) (is_number digits low high v) e)))
in_form_value (Digits n) v e = as_value v (of_digits v (and_second (eqb (length v) n) (are_all Digit v) e))
in_form_value (Hex n) v e = as_value v (of_hex v (and_second (eqb (length v) n) (are_all Hexadecimal v) e))
in_form_value HexSome v e = as_value v (of_hex v (and_second (leb 1 (length v)) (are_all Hexadecimal v) e))
in_form_value Name v e = as_value v (name_bytes_lem v e)
in_form_value Empty v e = as_value v (of_nothing v (eqb-true (length v) 0 e))
in_form_value (Label n) v e = and_second (leb (length v) n) (are_all Value v) e

-- it holds no byte that no value can hold, as the semicolon that ends an entry
pub in_form_plain : (d : ℕ) → is_of Value d ≡ false → (f : Form) (v : List ℕ) → in_form f v ≡ true → all_of (is_not d) v ≡ true
in_form_plain d p f v e = class_plain Value d v p (in_form_value f v e)

pub semicolon : is_of Value 59 ≡ false
semicolon = refl

-- and it is text
value_text : (b : ℕ) → is_of Value b ≡ true → is_of Text b ≡ true
value_text b e = and_second (is_not 124 b) (within b 32 125) (and_second (is_not 59 b) (is_not 124 b && within b 32 125) e)

pub in_form_text : (f : Form) (v : List ℕ) → in_form f v ≡ true → are_all Text v ≡ true
unfolding are_all
in_form_text f v e = all_wider (is_of Value) (is_of Text) value_text v (in_form_value f v e)

-- the longest value of a form, where there is one
abbrev pub is_bounded : Form → Bool
is_bounded Timestamp = true
is_bounded Algorithm = true
is_bounded (Number digits low high) = true
is_bounded (Digits n) = true
is_bounded (Hex n) = true
is_bounded HexSome = false
is_bounded Name = true
is_bounded Empty = true
is_bounded (Label n) = true

abbrev pub most : Form → ℕ
most Timestamp = 16
most Algorithm = 2
most (Number digits low high) = digits
most (Digits n) = n
most (Hex n) = n
most HexSome = 0
most Name = 40
most Empty = 0
most (Label n) = n

pub in_form_short : (f : Form) (v : List ℕ) → is_bounded f ≡ true → in_form f v ≡ true → length v ≤ most f
in_form_short Timestamp v b e = let n = timestamp_length v e in omega arith
in_form_short Algorithm v b e = ⊎_elim (λ (p : v ≡ text "02"). rw p (omega arith)) (λ (p : v ≡ text "04"). rw p (omega arith)) (algorithm_is v e)
in_form_short (Number digits low high) v b e = number_short digits low high v (and_second (leb digits 10) (is_number digits low high v) e)
in_form_short (Digits n) v b e = let l = eqb-true (length v) n (and_first (eqb (length v) n) (are_all Digit v) e) in omega arith
in_form_short (Hex n) v b e = let l = eqb-true (length v) n (and_first (eqb (length v) n) (are_all Hexadecimal v) e) in omega arith
in_form_short HexSome v b e = nope (cc)
in_form_short Name v b e = name_short v e
in_form_short Empty v b e = let l = eqb-true (length v) 0 e in omega arith
in_form_short (Label n) v b e = leb-true (length v) n (and_first (leb (length v) n) (are_all Value v) e)
