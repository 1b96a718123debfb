-- A timestamp has sixteen bytes, of digits, T and Z, so it holds no delimiter; a PTVD date fourteen digits.
use mathlib.Core.Path.{◌≡◌, ap, ◌∙◌}
use mathlib.Core.Bool.{true, false, ◌&&◌}
use mathlib.Core.List.{List, [], ◌∷◌}
use Prim.Native.Nat.{ℕ}
use native.Mathlib.Omega.{arith}
use lib.Dec.{eqb}
use lib.ListN.{length, get_or, take, drop, length-drop, drop_of_length-le}
use lib.Seq.{drop-cons, drop-drop, take_all}
use borrow.Author.Tests.{eqb-true}
use Rattle.byte_strings.specs.Strings.{all_of, is_not}
use Rattle.byte_strings.proofs.Flags.{and_first, and_second}
use Rattle.byte_strings.proofs.StringLaws.{all_parts}
use Rattle.text_classes.specs.Classes.{are_all, is_of}
use Rattle.text_classes.specs.declared.Class.TheVariants.{Digit}
use Rattle.text_classes.proofs.ClassLaws.{class_plain}
use Rattle.text_calendar.specs.Calendar.{is_date, is_time}
use Rattle.text_timestamps.specs.Timestamps.{number_at, is_date_and_time, is_timestamp, is_date_time}

-- date and time are digits
module _ (date time : List ℕ) (e : is_date_and_time date time ≡ true) where
  date_of_digits : are_all Digit date ≡ true
  unfolding is_date_and_time
  date_of_digits = and_first (are_all Digit date) _ e

  time_of_digits : are_all Digit time ≡ true
  unfolding is_date_and_time
  time_of_digits = and_first (are_all Digit time) (is_time (number_at 0 2 time) (number_at 2 2 time) (number_at 4 2 time))
      (and_second (is_date (number_at 0 4 date) (number_at 4 2 date) (number_at 6 2 date)) _ (and_second (are_all Digit date) _ e))

module _ (v : List ℕ) (e : is_timestamp v ≡ true) where
  pub timestamp_length : length v ≡ 16
  unfolding is_timestamp
  timestamp_length = eqb-true (length v) 16 (and_first (eqb (length v) 16) _ e)

  marks : (eqb (get_or v 8 0) 84 && (eqb (get_or v 15 0) 90 && is_date_and_time (take 8 v) (take 6 (drop 9 v)))) ≡ true
  unfolding is_timestamp
  marks = and_second (eqb (length v) 16) _ e

  digits : (eqb (get_or v 15 0) 90 && is_date_and_time (take 8 v) (take 6 (drop 9 v))) ≡ true
  digits = and_second (eqb (get_or v 8 0) 84) _ marks

  pub timestamp_date : are_all Digit (take 8 v) ≡ true
  timestamp_date = date_of_digits (take 8 v) (take 6 (drop 9 v)) (and_second (eqb (get_or v 15 0) 90) _ digits)

  pub timestamp_time : are_all Digit (take 6 (drop 9 v)) ≡ true
  timestamp_time = time_of_digits (take 8 v) (take 6 (drop 9 v)) (and_second (eqb (get_or v 15 0) 90) _ digits)

  -- T follows the date, and Z the time
  pub timestamp_t : drop 8 v ≡ 84 ∷ drop 9 v
  timestamp_t =
      let n = timestamp_length in
      drop-cons v 8 0 (omega arith) ∙ ap (λ (x : ℕ). x ∷ drop 9 v) (eqb-true (get_or v 8 0) 84 (and_first (eqb (get_or v 8 0) 84) _ marks))

  pub timestamp_z : drop 6 (drop 9 v) ≡ 90 ∷ []
  timestamp_z =
      let n = timestamp_length in
      let ended : drop 16 v ≡ [] = drop_of_length-le v {i = 16} (omega arith) in
      drop-drop 6 9 v ∙ drop-cons v 15 0 (omega arith) ∙ rw (ended, eqb-true (get_or v 15 0) 90 (and_first (eqb (get_or v 15 0) 90) _ digits))

  -- so it holds no delimiter d
  module _ (d : ℕ) (p : is_of Digit d ≡ false) (t : is_not d 84 ≡ true) (z : is_not d 90 ≡ true) where
    pub timestamp_plain : all_of (is_not d) v ≡ true
    timestamp_plain =
        let last : all_of (is_not d) (drop 6 (drop 9 v)) ≡ true = rw (timestamp_z, z) in
        let late : all_of (is_not d) (drop 9 v) ≡ true = all_parts (is_not d) 6 (drop 9 v) (class_plain Digit d (take 6 (drop 9 v)) p timestamp_time) last in
        all_parts (is_not d) 8 v (class_plain Digit d (take 8 v) p timestamp_date) (rw (timestamp_t, t) late)

module _ (v : List ℕ) (e : is_date_time v ≡ true) where
  pub date_length : length v ≡ 14
  unfolding is_date_time
  date_length = eqb-true (length v) 14 (and_first (eqb (length v) 14) _ e)

  says : is_date_and_time (take 8 v) (take 6 (drop 8 v)) ≡ true
  unfolding is_date_time
  says = and_second (eqb (length v) 14) _ e

  -- a PTVD date is all digits, so it holds no delimiter d
  pub date_digits : are_all Digit v ≡ true
  unfolding are_all
  date_digits =
      let n : length (drop 8 v) ≡ 6 = length-drop 8 v ∙ omega (arith, date_length) in
      let w : take 6 (drop 8 v) ≡ drop 8 v = take_all 6 (drop 8 v) (omega arith) in
      all_parts (is_of Digit) 8 v (date_of_digits (take 8 v) (take 6 (drop 8 v)) says) (rw (← w) (time_of_digits (take 8 v) (take 6 (drop 8 v)) says))

  pub date_plain : (d : ℕ) → is_of Digit d ≡ false → all_of (is_not d) v ≡ true
  date_plain d p = class_plain Digit d v p date_digits
