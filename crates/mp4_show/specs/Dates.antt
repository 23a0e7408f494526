-- Dates of the Gregorian calendar, by the seconds since the start of 1904.
use Rattle.std.specs.Prelude.{ℕ, zero, suc, ◌+◌, ◌-◌, ◌*◌, ◌/◌, ◌%◌, ◌==◌, ◌&&◌, ◌||◌, not, nat_lt, Bool, List}
use Rattle.std.specs.Prelude.{◌++◌, codes, decimal, if◌then◌else◌}

-- every fourth year, but of the centuries only every fourth
abbrev pub is_leap : ℕ → Bool
is_leap year = (year % 4 == 0) && (not (year % 100 == 0) || (year % 400 == 0))

abbrev pub days_in_year : ℕ → ℕ
days_in_year year = if is_leap year then 366 else 365

-- thirty days have April, June, September and November
abbrev pub days_in_month : ℕ → ℕ → ℕ
days_in_month year month =
    if month == 2 then (if is_leap year then 29 else 28) else
    if (month == 4) || (month == 6) || (month == 9) || (month == 11) then 30 else 31

-- the year, and the place in it from 0, of the day that is `day` days after the start of `year`; at most k years pass
unfoldable pub year_from : ℕ → ℕ → ℕ → ℕ × ℕ
year_from zero year day = (year, day)
year_from (suc k) year day =
    if nat_lt day (days_in_year year) then (year, day) else year_from k (year + 1) (day - days_in_year year)

-- the month, and the place in it from 0, of the day that is `day` days after the start of `month`
unfoldable pub month_from : ℕ → ℕ → ℕ → ℕ → ℕ × ℕ
month_from zero year month day = (month, day)
month_from (suc k) year month day =
    if nat_lt day (days_in_month year month) then (month, day)
    else month_from k year (month + 1) (day - days_in_month year month)

-- a number below 100 in two digits
abbrev pub two_digits : ℕ → List ℕ
two_digits n = decimal (n / 10) ++ decimal (n % 10)

-- `2024-06-19`, from the year and the month
abbrev pub month_text : ℕ → ℕ × ℕ → List ℕ
month_text year month =
    decimal year ++ (codes "-" ++ (two_digits month.0 ++ (codes "-" ++ two_digits (month.1 + 1))))

abbrev pub year_text : ℕ → ℕ × ℕ → List ℕ
year_text passed year = month_text (passed + year.0) (month_from 12 year.0 1 year.1)

-- the date of a day after the start of 1904; 400 years have 146097 days, and after them the calendar begins anew
unfoldable pub day_text : ℕ → List ℕ
day_text days = year_text (400 * (days / 146_097)) (year_from 400 1904 (days % 146_097))

-- `17:30:05`, from the seconds since midnight
abbrev pub time_text : ℕ → List ℕ
time_text n =
    two_digits (n / 3600) ++ (codes ":" ++ (two_digits (n / 60 % 60) ++ (codes ":" ++ two_digits (n % 60))))

-- the date and the number of seconds, as `2024-06-19T17:30:05Z (3801663005)`
abbrev pub dated : ℕ → List ℕ
dated n =
    day_text (n / 86_400)
    ++ (codes "T" ++ (time_text (n % 86_400) ++ (codes "Z (" ++ (decimal n ++ codes ")"))))

-- 0 and the numbers of 9999-12-31 and later have no date
abbrev pub has_date : ℕ → Bool
has_date n = nat_lt 0 n && nat_lt n 255_485_059_200

abbrev pub date_shown : ℕ → List ℕ
date_shown n = if has_date n then dated n else decimal n
