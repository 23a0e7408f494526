-- The text of a time: a number of ticks, or seconds.
use Rattle.std.specs.Prelude.{ℕ, ℤ, pos, negsuc, suc, ◌+◌, ◌-◌, ◌*◌, ◌/◌, ◌%◌, nat_lt, List, ◌++◌, length, replicate}
use Rattle.std.specs.Prelude.{codes, decimal, None, Some, if◌then◌else◌}
use Rattle.std.specs.Fmt.{signed_decimal}
use Rattle.std.specs.declared.option.Option.{Option}
use Rattle.mp4_inspect_samples.specs.declared.clock.Clock.{Clock}
use Rattle.mp4_inspect_samples.specs.declared.row.Shown.{Shown}
use Rattle.mp4_inspect_samples.specs.declared.row.Shown.TheVariants as shown

-- the time in millionths of a second, rounded to the nearest. A second has `ticks`. Halves are rounded up
abbrev pub millionths : ℕ → ℕ → ℕ
millionths ticks time = (2 * time * 1000000 + ticks) / (2 * ticks)

-- a number below a million in six digits
abbrev pub six_digits : ℕ → List ℕ
six_digits n = replicate (6 - length (decimal n)) 48 ++ decimal n

-- millionths as a decimal fraction
unfoldable pub fraction : ℕ → List ℕ
fraction n = decimal (n / 1000000) ++ (codes "." ++ six_digits (n % 1000000))

-- the time in seconds of `ticks` each, or the text `unknown` if a second has no ticks
abbrev pub seconds_text : List ℕ → ℕ → ℕ → List ℕ
seconds_text unknown ticks time = if nat_lt 0 ticks then fraction (millionths ticks time) else unknown

-- the ticks in a second, or 0 if they are unknown
abbrev pub ticks_or : Option ℕ → ℕ
ticks_or None = 0
ticks_or (Some ticks) = ticks

abbrev pub ticks_of : Clock → ℕ
ticks_of clock = ticks_or clock.timescale

-- a time in ticks of the timescale or in seconds; another text if seconds are asked for and the timescale is unknown or
-- 0
abbrev pub time_text : List ℕ → Clock → ℕ → List ℕ
time_text unknown clock time =
    if clock.seconds then seconds_text unknown (ticks_of clock) time else decimal time

-- the same of a time that may be below 0: the seconds without their sign, after a minus
abbrev pub signed_seconds : List ℕ → ℕ → ℤ → List ℕ
signed_seconds unknown ticks (pos n) = seconds_text unknown ticks n
signed_seconds unknown ticks (negsuc n) = if nat_lt 0 ticks then codes "-" ++ seconds_text unknown ticks (suc n) else
    unknown

abbrev pub signed_time_text : List ℕ → Clock → ℤ → List ℕ
signed_time_text unknown clock time =
    if clock.seconds then signed_seconds unknown (ticks_of clock) time else signed_decimal time

-- the presentation time of a sample. By an edit list it is in seconds, or in whole units of the timescale of the media,
-- rounded down; another text if no edit presents the sample
abbrev pub shown_text : List ℕ → Clock → Shown → List ℕ
shown_text unknown clock (shown.At time) = signed_time_text unknown clock time
shown_text unknown clock (shown.Edited time per_second units) =
    if clock.seconds then seconds_text unknown per_second time else decimal units
shown_text unknown clock shown.Never = unknown
