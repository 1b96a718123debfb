-- The shapes of values and names: a pattern that a value in form fits, and what is asked of the value besides.
use mathlib.Core.Path.{◌≡◌, refl, sym, ◌∙◌}
use mathlib.Core.Bool.{Bool, true, false, cond, not, and-true, ◌&&◌}
use mathlib.Core.List.{List, [], ◌∷◌, ◌++◌}
use Prim.Native.Nat.{ℕ, ◌+◌, ◌-◌, ◌*◌, ◌/◌, ◌%◌, ◌≤◌, ◌<◌}
use mathlib.Core.Logic.{⊎_elim}
use native.Mathlib.Omega.{arith}
use lib.Dec.{T, eqb, leb}
use lib.ListN.{length, get_or, take, drop, replicate, length-replicate, length-drop}
use lib.Seq.{length-take-le}
use borrow.Author.Tests.{eq-eqb, le-leb, lt-leb, leb-true, eqb-true, not-true}
use Rattle.byte_strings.specs.Texts.{text}
use Rattle.byte_strings.specs.Strings.{all_of}
use Rattle.byte_strings.proofs.Flags.{and_first, and_second, and_both, both_ways, yes}
use Rattle.text_classes.specs.Classes.{within, is_of, are_all}
use Rattle.text_classes.specs.declared.Class.TheVariants.{Capital, Digit, Hexadecimal}
use Rattle.text_decimals.specs.Decimals.{decimal, is_unpadded, is_number}
use Rattle.text_timestamps.specs.Timestamps.{is_timestamp}
use Rattle.text_timestamps.proofs.Plain.{timestamp_length, timestamp_date, timestamp_time, timestamp_t, timestamp_z}
use Rattle.text_forms.specs.Forms.{is_algorithm, in_form}
use Rattle.text_forms.proofs.FormBounds.{algorithm_is}
use Rattle.text_forms.specs.declared.Form.{Form}
use Rattle.text_forms.specs.declared.Form.TheVariants.{Timestamp, Algorithm, Number, Digits, Hex}
use Rattle.card_entries.specs.Entries.{name_of, name_bytes}
use Rattle.card_entries.proofs.EntryLaws.{name_length}
use Rattle.text_patterns.specs.Patterns.{fits_byte, fits}
use Rattle.text_patterns.proofs.PatternLaws.{fits_smaller, fits_digit, fits_hexadecimal, fits_itself, fits_class, fits_front, fits_append, fits_length}

-- a value that is as long as the shape is in form where it fits the shape and passes the test
abbrev pub Told : Form → List ℕ → (List ℕ → Bool) → Type 0
Told f shape test = (v : List ℕ) → length v ≡ length shape → in_form f v ≡ (fits shape v && test v)

-- no test besides
abbrev pub no_more : List ℕ → Bool
no_more v = true

-- digits, and hexadecimal digits
pub digits_told : (n : ℕ) (v : List ℕ) → length v ≡ n → in_form (Digits n) v ≡ (fits (replicate n 57) v && true)
unfolding are_all
digits_told n v l = rw (eq-eqb (length v) n l, fits_class 57 (is_of Digit) fits_digit n v l) (sym (and-true (all_of (is_of Digit) v)))

pub hex_told : (n : ℕ) (v : List ℕ) → length v ≡ n → in_form (Hex n) v ≡ (fits (replicate n 70) v && true)
unfolding are_all
hex_told n v l = rw (eq-eqb (length v) n l, fits_class 70 (is_of Hexadecimal) fits_hexadecimal n v l) (sym (and-true (all_of (is_of Hexadecimal) v)))

-- a number of one digit: the highest one is its shape
module _ (low high : ℕ) (m : high ≤ 9) where
  module _ (b : ℕ) where
    abbrev range : Bool
    range = leb low (decimal (b ∷ [])) && leb (decimal (b ∷ [])) high

    digit_in : in_form (Number 1 low high) (b ∷ []) ≡ true → (within b 48 (48 + high) ≡ true) × (48 + low ≤ b)
    unfolding is_number are_all
    digit_in e =
        let d = and_first (is_of Digit b) true (and_first (all_of (is_of Digit) (b ∷ [])) (is_unpadded (b ∷ []) && range) e) in
        let r = and_second (is_unpadded (b ∷ [])) range (and_second (all_of (is_of Digit) (b ∷ [])) (is_unpadded (b ∷ []) && range) e) in
        let l = leb-true 48 b (and_first (leb 48 b) (leb b 57) d) in
        let x = leb-true low (decimal (b ∷ [])) (and_first (leb low (decimal (b ∷ []))) (leb (decimal (b ∷ [])) high) r) in
        let y = leb-true (decimal (b ∷ [])) high (and_second (leb low (decimal (b ∷ []))) (leb (decimal (b ∷ [])) high) r) in
        (and_both (leb 48 b) (leb b (48 + high)) (le-leb 48 b l) (le-leb b (48 + high) (omega arith)), omega arith)

    digit_out : within b 48 (48 + high) ≡ true → 48 + low ≤ b → in_form (Number 1 low high) (b ∷ []) ≡ true
    unfolding is_number are_all is_unpadded
    digit_out w k =
        let l = leb-true 48 b (and_first (leb 48 b) (leb b (48 + high)) w) in
        let h = leb-true b (48 + high) (and_second (leb 48 b) (leb b (48 + high)) w) in
        rw (le-leb 48 b l, le-leb b 57 (omega arith), le-leb low (decimal (b ∷ [])) (omega arith), le-leb (decimal (b ∷ [])) high (omega arith))

    digit_shape : fits ((48 + high) ∷ []) (b ∷ []) ≡ within b 48 (48 + high)
    digit_shape = and-true (fits_byte (48 + high) b) ∙ fits_smaller (48 + high) (omega arith) (omega arith) b

  pub number_told : Told (Number 1 low high) ((48 + high) ∷ []) (λ (v : List ℕ). leb (48 + low) (get_or v 0 0))
  number_told [] l = absurd (omega arith)
  number_told (b ∷ []) l =
      let f = digit_shape b in
      both_ways (in_form (Number 1 low high) (b ∷ [])) (fits ((48 + high) ∷ []) (b ∷ []) && leb (48 + low) b)
      (λ e. and_both (fits ((48 + high) ∷ []) (b ∷ [])) (leb (48 + low) b) (f ∙ (digit_in b e).0) (le-leb (48 + low) b (digit_in b e).1))
      (λ e. digit_out b (sym f ∙ and_first (fits ((48 + high) ∷ []) (b ∷ [])) (leb (48 + low) b) e) (leb-true (48 + low) b (and_second (fits ((48 + high) ∷ []) (b ∷ [])) (leb (48 + low) b) e)))
  number_told (b ∷ c ∷ v) l = absurd (omega arith)

-- from 0 on, no digit is too low
pub from_zero_told : (high : ℕ) → high ≤ 9 → Told (Number 1 0 high) ((48 + high) ∷ []) no_more
from_zero_told high m [] l = absurd (omega arith)
from_zero_told high m (b ∷ []) l =
    let f = digit_shape 0 high m b in
    number_told 0 high m (b ∷ []) l
    ∙ both_ways (fits ((48 + high) ∷ []) (b ∷ []) && leb 48 b) (fits ((48 + high) ∷ []) (b ∷ []) && true)
    (λ e. and_both (fits ((48 + high) ∷ []) (b ∷ [])) true (and_first (fits ((48 + high) ∷ []) (b ∷ [])) (leb 48 b) e) refl)
    (λ e. let g = and_first (fits ((48 + high) ∷ []) (b ∷ [])) true e in and_both (fits ((48 + high) ∷ []) (b ∷ [])) (leb 48 b) g (and_first (leb 48 b) (leb b (48 + high)) (sym f ∙ g)))
from_zero_told high m (b ∷ c ∷ v) l = absurd (omega arith)

-- 02 or 04
algorithm_fits : (v : List ℕ) → is_algorithm v ≡ true → fits (text "04") v ≡ true
unfolding fits_byte
algorithm_fits v e = ⊎_elim (λ (p : v ≡ text "02"). rw p) (λ (p : v ≡ text "04"). rw p) (algorithm_is v e)

-- what a form says besides, where the shape is a part of it
besides : (f : Form) (shape v : List ℕ) → (in_form f v ≡ true → fits shape v ≡ true) → in_form f v ≡ (fits shape v && in_form f v)
besides f shape v h = both_ways (in_form f v) (fits shape v && in_form f v) (λ e. and_both (fits shape v) (in_form f v) (h e) e) (and_second (fits shape v) (in_form f v))

pub algorithm_told : Told Algorithm (text "04") (in_form Algorithm)
algorithm_told v l = besides Algorithm (text "04") v (λ e. algorithm_fits v e)

-- a timestamp
abbrev pub stamp_shape : List ℕ
stamp_shape = replicate 8 57 ++ (84 ∷ (replicate 6 57 ++ (90 ∷ [])))

digits_fit : (n : ℕ) (s : List ℕ) → n ≤ length s → are_all Digit (take n s) ≡ true → fits (replicate n 57) s ≡ true
unfolding are_all
digits_fit n s l e =
    let k : length {A = ℕ} (replicate n 57) ≡ n = length-replicate n 57 in
    sym (fits_front (replicate n 57) s) ∙ rw k (fits_class 57 (is_of Digit) fits_digit n (take n s) (length-take-le n s l) ∙ e)

stamp_fits : (v : List ℕ) → is_timestamp v ≡ true → fits stamp_shape v ≡ true
unfolding fits_byte
stamp_fits v e =
    let n = timestamp_length v e in
    let date = digits_fit 8 v (omega arith) (timestamp_date v e) in
    let time = digits_fit 6 (drop 9 v) (omega (arith, length-drop 9 v)) (timestamp_time v e) in
    fits_append (replicate 8 57) (84 ∷ (replicate 6 57 ++ (90 ∷ []))) v
    ∙ rw (date, timestamp_t v e, fits_append (replicate 6 57) (90 ∷ []) (drop 9 v), time, timestamp_z v e)

pub stamp_told : Told Timestamp stamp_shape (in_form Timestamp)
stamp_told v l = besides Timestamp stamp_shape v (stamp_fits v)

-- the three letters of a name, each of which stands for itself
abbrev is_letter : ℕ → Bool
is_letter a = is_of Capital a && not (eqb a 70)

abbrev pub is_plain : ℕ → Bool
is_plain n = all_of is_letter (name_bytes n)

letter_itself : (a b : ℕ) → is_letter a ≡ true → fits_byte a b ≡ eqb a b
letter_itself a b e =
    let l = leb-true 65 a (and_first (leb 65 a) (leb a 90) (and_first (is_of Capital a) (not (eqb a 70)) e)) in
    fits_itself a b (lt-leb a 57 (omega arith)) (not-true (eqb a 70) (and_second (is_of Capital a) (not (eqb a 70)) e))

if_some : (t : Bool) (n : ℕ) → 0 < cond t n 0 → t ≡ true
if_some true n h = refl
if_some false n h = absurd (omega arith)

module _ (n : ℕ) (p : T (is_plain n)) where
  abbrev first : ℕ
  first = n / 65536

  abbrev second : ℕ
  second = n / 256 % 256

  abbrev third : ℕ
  third = n % 256

  first_letter : is_letter first ≡ true
  first_letter = and_first (is_letter first) (is_letter second && (is_letter third && true)) (yes (is_plain n) p)

  last_letters : (is_letter second && (is_letter third && true)) ≡ true
  last_letters = and_second (is_letter first) (is_letter second && (is_letter third && true)) (yes (is_plain n) p)

  second_letter : is_letter second ≡ true
  second_letter = and_first (is_letter second) (is_letter third && true) last_letters

  third_letter : is_letter third ≡ true
  third_letter = and_first (is_letter third) true (and_second (is_letter second) (is_letter third && true) last_letters)

  pub plain_some : 0 < n
  plain_some =
      let l = leb-true 65 first (and_first (leb 65 first) (leb first 90) (and_first (is_of Capital first) (not (eqb first 70)) first_letter)) in
      omega arith

  letters : (x y z : ℕ) (v : List ℕ) → fits (name_bytes n) (x ∷ y ∷ z ∷ v) ≡ (eqb first x && (eqb second y && (eqb third z && true)))
  letters x y z v = rw (letter_itself first x first_letter, letter_itself second y second_letter, letter_itself third z third_letter)

  pub name_fits : (t : List ℕ) → name_of (take 3 t) ≡ n → fits (name_bytes n) t ≡ true
  unfolding name_of
  name_fits [] e = absurd (omega (arith, name_length [] (omega (arith, plain_some))))
  name_fits (x ∷ []) e = absurd (omega (arith, name_length (x ∷ []) (omega (arith, plain_some))))
  name_fits (x ∷ y ∷ []) e = absurd (omega (arith, name_length (x ∷ y ∷ []) (omega (arith, plain_some))))
  name_fits (x ∷ y ∷ z ∷ v) e =
      let t : (is_of Capital x && (is_of Capital y && is_of Capital z)) ≡ true = if_some (is_of Capital x && (is_of Capital y && is_of Capital z)) (x * 65536 + y * 256 + z) (omega (arith, plain_some)) in
      let u = and_second (is_of Capital x) (is_of Capital y && is_of Capital z) t in
      let i = leb-true y 90 (and_second (leb 65 y) (leb y 90) (and_first (is_of Capital y) (is_of Capital z) u)) in
      let j = leb-true z 90 (and_second (leb 65 z) (leb z 90) (and_second (is_of Capital y) (is_of Capital z) u)) in
      let w : x * 65536 + y * 256 + z ≡ n = rw t at e in
      letters x y z v ∙ rw (eq-eqb first x (omega arith), eq-eqb second y (omega arith), eq-eqb third z (omega arith))

  pub fits_name_lem : (t : List ℕ) → fits (name_bytes n) t ≡ true → name_of (take 3 t) ≡ n
  unfolding name_of
  fits_name_lem [] e = absurd (omega (arith, fits_length (name_bytes n) [] e))
  fits_name_lem (x ∷ []) e = absurd (omega (arith, fits_length (name_bytes n) (x ∷ []) e))
  fits_name_lem (x ∷ y ∷ []) e = absurd (omega (arith, fits_length (name_bytes n) (x ∷ y ∷ []) e))
  fits_name_lem (x ∷ y ∷ z ∷ v) e =
      let o = sym (letters x y z v) ∙ e in
      let u = and_second (eqb first x) (eqb second y && (eqb third z && true)) o in
      let i = eqb-true first x (and_first (eqb first x) (eqb second y && (eqb third z && true)) o) in
      let j = eqb-true second y (and_first (eqb second y) (eqb third z && true) u) in
      let k = eqb-true third z (and_first (eqb third z) true (and_second (eqb second y) (eqb third z && true) u)) in
      let a : is_of Capital x ≡ true = rw i at (and_first (is_of Capital first) (not (eqb first 70)) first_letter) in
      let b : is_of Capital y ≡ true = rw j at (and_first (is_of Capital second) (not (eqb second 70)) second_letter) in
      let c : is_of Capital z ≡ true = rw k at (and_first (is_of Capital third) (not (eqb third 70)) third_letter) in
      rw (a, b, c) (omega arith)
