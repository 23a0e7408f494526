-- The years and the months that pass before a day, one by one.
use Rattle.std.proofs.Common.{◌≡◌, ℕ, zero, suc, ◌+◌, ◌-◌, ◌*◌, ◌<◌, ◌≤◌, List, refl, subst, arith}
use Rattle.std.proofs.lemmas.Bool.{cond_above, cond_below}
use Rattle.mp4_show.specs.Dates.{days_in_month, days_in_year, month_from, month_text, year_from, year_text}

-- the day is in this year
pub year_stops : (k year day long : ℕ) → 0 < k → long ≡ days_in_year year → day < long
    → (year, day) ≡ year_from k year day
unfolding year_from
year_stops zero year day long some is below = absurd (omega (arith, some))
year_stops (suc k) year day long some is below =
    cond_below day (days_in_year year) (year, day) (year_from k (year + 1) (day - days_in_year year))
    (subst (λ (n : ℕ). day < n) is below)

-- a year passes
pub year_passes : (k year day long : ℕ) → 0 < k → long ≡ days_in_year year → long ≤ day
    → year_from (k - 1) (year + 1) (day - long) ≡ year_from k year day
unfolding year_from
year_passes zero year day long some is past = absurd (omega (arith, some))
year_passes (suc k) year day long some is past =
    let less : suc k - 1 ≡ k = omega arith in
    cond_above day (days_in_year year) (year, day) (year_from k (year + 1) (day - days_in_year year))
    (year_from (suc k - 1) (year + 1) (day - long)) (subst (λ (n : ℕ). n ≤ day) is past)
    (λ i. year_from (less i) (year + 1) (day - is i))

-- no more years pass
pub year_stays : (k year day : ℕ) → k ≤ 0 → (year, day) ≡ year_from k year day
unfolding year_from
year_stays zero year day none = refl
year_stays (suc k) year day none = absurd (omega (arith, none))

-- the day is in this month
pub month_stops : (k year month day long : ℕ) → 0 < k → long ≡ days_in_month year month → day < long
    → (month, day) ≡ month_from k year month day
unfolding month_from
month_stops zero year month day long some is below = absurd (omega (arith, some))
month_stops (suc k) year month day long some is below =
    cond_below day (days_in_month year month) (month, day)
    (month_from k year (month + 1) (day - days_in_month year month))
    (subst (λ (n : ℕ). day < n) is below)

-- a month passes
pub month_passes : (k year month day long : ℕ) → 0 < k → long ≡ days_in_month year month → long ≤ day
    → month_from (k - 1) year (month + 1) (day - long) ≡ month_from k year month day
unfolding month_from
month_passes zero year month day long some is past = absurd (omega (arith, some))
month_passes (suc k) year month day long some is past =
    let less : suc k - 1 ≡ k = omega arith in
    cond_above day (days_in_month year month) (month, day)
    (month_from k year (month + 1) (day - days_in_month year month))
    (month_from (suc k - 1) year (month + 1) (day - long)) (subst (λ (n : ℕ). n ≤ day) is past)
    (λ i. month_from (less i) year (month + 1) (day - is i))

-- no more months pass
pub month_stays : (k year month day : ℕ) → k ≤ 0 → (month, day) ≡ month_from k year month day
unfolding month_from
month_stays zero year month day none = refl
month_stays (suc k) year month day none = absurd (omega (arith, none))

-- a place in a year and one in a month of it are the date of a day
pub day_shown : (P : List ℕ → Type 0) (cycles days : ℕ) (year month : ℕ × ℕ) → year ≡ year_from 400 1904 days
    → month ≡ month_from 12 year.0 1 year.1 → P (month_text (400 * cycles + year.0) month)
    → P (year_text (400 * cycles) (year_from 400 1904 days))
day_shown P cycles days year month in_year in_month shown =
    subst (λ (y : ℕ × ℕ). P (year_text (400 * cycles) y)) in_year
    (subst (λ (m : ℕ × ℕ). P (month_text (400 * cycles + year.0) m)) in_month shown)
