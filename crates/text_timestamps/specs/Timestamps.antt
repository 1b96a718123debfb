-- Timestamps YYYYMMDDThhmmssZ (003 clause 5.1.4) and PTVD dates CCYYMMDDhhmmss (001 Table 6): Gregorian, years 1900
-- to 9999, no leap seconds (document 01).
use Rattle.std.specs.Prelude.{ℕ, ◌+◌, ◌*◌, Bool, false, cond, List, [], ◌∷◌, ltb, eqb, length, get_or, take, drop}
use Rattle.std.specs.Prelude.{Option, Some, None}
use Prim.Native.Char.{code}
use Rattle.byte_strings.specs.Texts.{all}
use Rattle.text_classes.specs.Classes.{are_all}
use Rattle.text_classes.specs.declared.Class.TheVariants.{Digit}
use Rattle.text_decimals.specs.Decimals.{decimal}
use Rattle.text_calendar.specs.Calendar.{is_date, is_time}

-- the number that so many digits from a place on say
abbrev pub number_at : ℕ → ℕ → List ℕ → ℕ
number_at at n s = decimal (take n (drop at s))

-- YYYYMMDD and hhmmss are digits that say a date and a time of day
unfoldable pub is_date_and_time : List ℕ → List ℕ → Bool
is_date_and_time date time =
    all (
    are_all Digit date
    ∷ is_date (number_at 0 4 date) (number_at 4 2 date) (number_at 6 2 date)  -- YYYY, MM, DD
    ∷ are_all Digit time
    ∷ is_time (number_at 0 2 time) (number_at 2 2 time) (number_at 4 2 time)  -- hh, mm, ss
    ∷ [])

-- 003 clause 5.1.4: YYYYMMDDThhmmssZ
unfoldable pub is_timestamp : List ℕ → Bool
is_timestamp s =
    all (
    eqb (length s) 16
    ∷ eqb (get_or s 8 0) (code "T")
    ∷ eqb (get_or s 15 0) (code "Z")
    ∷ is_date_and_time (take 8 s) (take 6 (drop 9 s))
    ∷ [])

-- 001 Table 6, DateTime: CCYYMMDDhhmmss
unfoldable pub is_date_time : List ℕ → Bool
is_date_time s =
    all (
    eqb (length s) 14
    ∷ is_date_and_time (take 8 s) (take 6 (drop 8 s))
    ∷ [])

-- the moment of a timestamp as the number YYYYMMDDhhmmss, which is greater for the later one
unfoldable pub timestamp_of : List ℕ → Option ℕ
timestamp_of s = cond (is_timestamp s) (Some (number_at 0 8 s * 1000000 + number_at 9 6 s)) None

-- the moment of a PTVD date, as the same number
unfoldable pub date_time_of : List ℕ → Option ℕ
date_time_of s = cond (is_date_time s) (Some (number_at 0 8 s * 1000000 + number_at 8 6 s)) None

-- there is a moment x, and it is later than the moment y
abbrev pub is_later : Option ℕ → Option ℕ → Bool
is_later (Some x) (Some y) = ltb y x
is_later (Some x) None = false
is_later None y = false
