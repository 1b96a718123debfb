-- The cases of a moment, each with what the code knows where it answers as premises.
use mathlib.Core.Path.{◌≡◌, refl}
use mathlib.Core.Bool.{Bool, true, false, cond, and-false, ◌&&◌}
use mathlib.Core.List.{List}
use Prim.Native.Nat.{ℕ, ◌+◌, ◌*◌, ◌≤◌}
use lib.Dec.{leb, eqb}
use lib.ListN.{length, get_or, take, drop}
use borrow.Author.Tests.{le-leb}
use Rattle.std.specs.Prelude.{Option, Some, None, is_some}
use Rattle.std.specs.Bool.{then_some}
use Rattle.text_decimals.specs.Decimals.{decimal}
use Rattle.text_calendar.specs.Calendar.{is_date, is_time}
use Rattle.text_timestamps.specs.Timestamps.{is_date_and_time, is_timestamp, is_date_time, timestamp_of, date_time_of}
use Rattle.text_timestamps.proofs.Pairs.{pair_at, no_pair, date_pairs, time_pairs}

-- the moment of the digits of a date and of a time
abbrev pub moment_of : List ℕ → List ℕ → Option ℕ
moment_of date time = cond (is_date_and_time date time) (Some (decimal date * 1000000 + decimal time)) None

-- moment_of: a pair that is none, of the date or of the time
module _ (date time : List ℕ) where
  pub no_date : (at : ℕ) → None ≡ pair_at date at → None ≡ moment_of date time
  unfolding is_date_and_time
  no_date at e = rw (no_pair date at e)

  pub no_time : (at : ℕ) → None ≡ pair_at time at → None ≡ moment_of date time
  unfolding is_date_and_time
  no_time at e = simp (no_pair time at e, and-false)

then_if : (t : Bool) (x : ℕ) → then_some t x ≡ cond t (Some x) None
then_if true x = refl
then_if false x = refl

-- all pairs are read: x is what the calendar says of those of the date
module _ (date time : List ℕ) (n : (length date ≡ 8) × (length time ≡ 6)) (c y m d : ℕ) (e : Some c ≡ pair_at date 0) (f : Some y ≡ pair_at date 2) (g : Some m ≡ pair_at date 4) (h : Some d ≡ pair_at date 6) (s : y ≤ 99) where
  module _ (i j k : ℕ) (u : Some i ≡ pair_at time 0) (v : Some j ≡ pair_at time 2) (w : Some k ≡ pair_at time 4) (x : Bool) (p : x ≡ (leb y 99 && is_date (c * 100 + y) m d)) where
    pub the_moment : (right : Bool) → right ≡ (x && is_time i j k) → (r : Option ℕ) → r ≡ then_some right ((((c * 100 + y) * 100 + m) * 100 + d) * 1000000 + ((i * 100 + j) * 100 + k)) → r ≡ moment_of date time
    unfolding is_date_and_time
    the_moment right q r z =
        let a = date_pairs date n.0 c y m d e f g h in
        let b = time_pairs time n.1 i j k u v w in
        rw (a.0, a.1, a.2, a.3, a.4, b.0, b.1, b.2, b.3, b.4, z, q, p, le-leb y 99 s) (then_if (is_date (c * 100 + y) m d && is_time i j k) _)

-- read_timestamp and read_date_time: where the bytes around them are right, the moment of the digits
only : (a b : Bool) (x : ℕ) → cond (a && b) (Some x) None ≡ cond a (cond b (Some x) None) None
only true b x = refl
only false b x = refl

pub stamp_is : (s : List ℕ) → timestamp_of s ≡ cond (eqb (length s) 16 && (eqb (get_or s 8 0) 84 && eqb (get_or s 15 0) 90)) (moment_of (take 8 s) (take 6 (drop 9 s))) None
unfolding timestamp_of is_timestamp
stamp_is s = by_case (eqb (length s) 16) (eqb (get_or s 8 0) 84) (eqb (get_or s 15 0) 90) (is_date_and_time (take 8 s) (take 6 (drop 9 s))) _
  where
    by_case : (a b c d : Bool) (x : ℕ) → cond (a && (b && (c && d))) (Some x) None ≡ cond (a && (b && c)) (cond d (Some x) None) None
    by_case true true c d x = only c d x
    by_case true false c d x = refl
    by_case false b c d x = refl

pub date_is : (s : List ℕ) → date_time_of s ≡ cond (eqb (length s) 14) (moment_of (take 8 s) (take 6 (drop 8 s))) None
unfolding date_time_of is_date_time
date_is s = only (eqb (length s) 14) (is_date_and_time (take 8 s) (take 6 (drop 8 s))) _

-- there is a moment just where the text is a timestamp, or a PTVD date
moment_if : (t : Bool) (x : ℕ) → is_some (cond t (Some x) None) ≡ t
moment_if true x = refl
moment_if false x = refl

pub timestamp_moment : (s : List ℕ) → is_some (timestamp_of s) ≡ is_timestamp s
unfolding timestamp_of
timestamp_moment s = moment_if (is_timestamp s) _

pub date_time_moment : (s : List ℕ) → is_some (date_time_of s) ≡ is_date_time s
unfolding date_time_of
date_time_moment s = moment_if (is_date_time s) _
