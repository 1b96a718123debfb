-- The Gregorian calendar, years 1900 to 9999, and the time of day, no leap seconds (document 01; 001 Table 6; 003
-- clause 5.1.4).
use Rattle.std.specs.Prelude.{ℕ, ◌%◌, Bool, cond, not, ◌&&◌, ◌||◌, [], ◌∷◌, leb, eqb}
use Rattle.byte_strings.specs.Texts.{all}

-- a Gregorian leap year
unfoldable pub is_leap : ℕ → Bool
is_leap year = eqb (year % 400) 0 || (not (eqb (year % 100) 0) && eqb (year % 4) 0)

-- the days of a month
unfoldable pub days_in : ℕ → ℕ → ℕ
days_in year month =
    cond (eqb month 2) (cond (is_leap year) 29 28)
    (cond (eqb month 4 || (eqb month 6 || (eqb month 9 || eqb month 11))) 30 31)

-- a date (001 Table 6)
unfoldable pub is_date : ℕ → ℕ → ℕ → Bool
is_date year month day =
    all (
    leb 1900 year  -- CCYY: range 1900 to 9999
    ∷ leb year 9999
    ∷ leb 1 month  -- MM: range 01 to 12
    ∷ leb month 12
    ∷ leb 1 day  -- DD: range 01 to the number of days in the month
    ∷ leb day (days_in year month)
    ∷ [])

-- a time of day (001 Table 6; 003 clause 5.1.4)
unfoldable pub is_time : ℕ → ℕ → ℕ → Bool
is_time hour minute second =
    all (
    leb hour 23  -- hh: range 00 to 23
    ∷ leb minute 59  -- mm: range 00 to 59
    ∷ leb second 59  -- ss: range 00 to 59
    ∷ [])
