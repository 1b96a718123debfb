-- The cases of the calendar, each with what the code knows where it answers as premises.
use mathlib.Core.Path.{◌≡◌, refl, sym, ◌∙◌}
use mathlib.Core.Bool.{Bool, true, false, cond, or-false, ◌&&◌, ◌||◌}
use Prim.Native.Nat.{ℕ, zero, suc, ◌+◌, ◌*◌, ◌%◌, ◌≤◌}
use native.Mathlib.Omega.{arith}
use lib.Dec.{leb, eqb}
use borrow.Author.Tests.{eq-eqb, ne_eqb, le-leb}
use Rattle.text_calendar.specs.Calendar.{is_leap, days_in, is_date}

-- is_leap: the year is c * 100 + y
module _ (c y : ℕ) where
  pub century_year : y ≡ 0 → eqb (c % 4) 0 ≡ is_leap (c * 100 + y)
  unfolding is_leap
  century_year e = rw (eq-eqb ((c * 100 + y) % 100) 0 (omega arith), or-false, hundredfold) (by_case (c % 4))
    where
      hundredfold : (c * 100 + y) % 400 ≡ c % 4 * 100
      hundredfold = omega arith

      by_case : (k : ℕ) → eqb k 0 ≡ eqb (k * 100) 0
      by_case zero = refl
      by_case (suc k) = ne_eqb (suc k) 0 (λ p. omega arith) ∙ sym (ne_eqb (suc k * 100) 0 (λ p. omega arith))

  pub other_year : (y ≡ 0 → ⊥) → y ≤ 99 → eqb (y % 4) 0 ≡ is_leap (c * 100 + y)
  unfolding is_leap
  other_year o h =
      let p : (c * 100 + y) % 4 ≡ y % 4 = omega arith in
      rw (ne_eqb ((c * 100 + y) % 400) 0 (λ e. o (omega arith)), ne_eqb ((c * 100 + y) % 100) 0 (λ e. o (omega arith)), p)

-- a month has at least 28 days
pub days_least : (y m : ℕ) → 28 ≤ days_in y m
unfolding days_in
days_least y m = by_case (eqb m 2) (is_leap y) (eqb m 4 || (eqb m 6 || (eqb m 9 || eqb m 11)))
  where
    by_case : (a b d : Bool) → 28 ≤ cond a (cond b 29 28) (cond d 30 31)
    by_case true true d = omega arith
    by_case true false d = omega arith
    by_case false b true = omega arith
    by_case false b false = omega arith

-- is_day: of the days up to the 28th
pub early_day : (c y m d : ℕ) → 19 ≤ c → c ≤ 99 → y ≤ 99 → 1 ≤ m → m ≤ 12 → 1 ≤ d → d ≤ 28 → (leb y 99 && is_date (c * 100 + y) m d) ≡ true
unfolding is_date
early_day c y m d s t p l n o h =
    let k = days_least (c * 100 + y) m in
    rw (le-leb y 99 p, le-leb 1900 (c * 100 + y) (omega arith), le-leb (c * 100 + y) 9999 (omega arith), le-leb 1 m l, le-leb m 12 n, le-leb 1 d o, le-leb d (days_in (c * 100 + y) m) (omega arith))
