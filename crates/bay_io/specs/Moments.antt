-- A moment as a text: ISO 8601, in UTC, with milliseconds (the Gregorian calendar, no leap
-- seconds).
use Rattle.std.specs.Prelude.{ℕ, zero, suc, ◌+◌, ◌-◌, ◌*◌, ◌/◌, ◌%◌, Bool, not, ◌&&◌, ◌||◌, ◌==◌, nat_lt, min, List, [], ◌∷◌, if◌then◌else◌}

-- whether a year is a leap year by the Gregorian rule
abbrev pub is_leap_year : ℕ → Bool
is_leap_year y = (y % 4 == 0) && (not (y % 100 == 0) || (y % 400 == 0))

-- the days of a year
abbrev pub days_in_year : ℕ → ℕ
days_in_year y = if is_leap_year y then 366 else 365

-- the days of a month, 1 to 12, of a year
abbrev pub days_in_month : ℕ → ℕ → ℕ
days_in_month y m =
    if m == 2 then (if is_leap_year y then 29 else 28)
    else (if (m == 4) || (m == 6) || (m == 9) || (m == 11) then 30 else 31)

-- the year of the day `days` days after the first of January of year `y`, and the day's offset from
-- the first of that year; looks at most as many years ahead as the first argument
unfoldable pub year_from : ℕ → ℕ → ℕ → ℕ × ℕ
year_from zero y days = (y, days)
year_from (suc more) y days =
    if nat_lt days (days_in_year y)
    then (y, days)
    else year_from more (y + 1) (days - days_in_year y)

-- the month of the day `days` days after the first of month `m` of year `y`, and the day's offset
-- from the first of that month; looks at most as many months ahead as the first argument
unfoldable pub month_from : ℕ → ℕ → ℕ → ℕ → ℕ × ℕ
month_from zero y m days = (m, days)
month_from (suc more) y m days =
    if nat_lt days (days_in_month y m) then (m, days)
    else month_from more y (m + 1) (days - days_in_month y m)

-- the octet of a number's digit at a unit: 1, 10, 100 or 1000
abbrev pub digit_at : ℕ → ℕ → ℕ
digit_at number unit = 48 + number / unit % 10

-- YYYY-MM-DDThh:mm:ss.mmmZ, from the year, the month, the number of days before this day in the
-- month, and the milliseconds of the day
abbrev pub date_text : ℕ → ℕ → ℕ → ℕ → List ℕ
date_text y m days ms =
    digit_at y 1000 ∷ digit_at y 100 ∷ digit_at y 10 ∷ digit_at y 1 ∷ 45
    ∷ digit_at m 10 ∷ digit_at m 1 ∷ 45
    ∷ digit_at (days + 1) 10 ∷ digit_at (days + 1) 1 ∷ 84
    ∷ digit_at (ms / 3600000) 10 ∷ digit_at (ms / 3600000) 1 ∷ 58
    ∷ digit_at (ms / 60000 % 60) 10 ∷ digit_at (ms / 60000 % 60) 1 ∷ 58
    ∷ digit_at (ms / 1000 % 60) 10 ∷ digit_at (ms / 1000 % 60) 1 ∷ 46
    ∷ digit_at ms 100 ∷ digit_at ms 10 ∷ digit_at ms 1 ∷ 90 ∷ []

-- the text of a moment, from its year with the day's offset in the year, and the milliseconds of
-- the day
abbrev pub text_in_year : ℕ × ℕ → ℕ → List ℕ
text_in_year year ms =
    let month = month_from 11 year.0 1 year.1 in date_text year.0 month.0 month.1 ms

-- the text of a moment in milliseconds since 1970, up to the last of the year 9999
abbrev pub date_of : ℕ → List ℕ
date_of moment = text_in_year (year_from 8029 1970 (moment / 86400000)) (moment % 86400000)

-- the text of a moment in milliseconds since 1970; after the year 9999, that of its last
-- millisecond
unfoldable pub utc_text : ℕ → List ℕ
utc_text moment = date_of (min moment 253402300799999)
