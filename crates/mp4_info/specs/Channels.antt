-- The channels of sound, by the configuration of its decoder.
use Rattle.std.specs.Prelude.{ℕ, ◌==◌, nat_le, ◌&&◌, ◌||◌, Bool, List, ◌++◌, codes, decimal}
use Rattle.std.specs.Prelude.{None, Some, if◌then◌else◌}
use Rattle.std.specs.declared.option.Option.{Option}
use Rattle.mp4_info.specs.Digits.{bit}
use Rattle.mp4_info.specs.declared.channels.Channels.{Channels}

-- The channel configurations of MPEG-4 audio (ISO/IEC 14496-3, 1.6.3.5, and ISO/IEC 23001-8): 1 to 5 count full
-- channels. 6 is 5.1, 7, 12 and 14 are 7.1, and 11 is 6.1: one of the channels has low frequencies. 13 is 22.2, with
-- two of them. 0 leaves the channels to the coded sound, and the other numbers are reserved.
abbrev pub aac_channels : ℕ → Option Channels
aac_channels n =
    if nat_le 1 n && nat_le n 5 then Some (record { full = n; low = 0 })
    else if n == 6 then Some (record { full = 5; low = 1 })
    else if n == 7 || (n == 12 || n == 14) then Some (record { full = 7; low = 1 })
    else if n == 11 then Some (record { full = 6; low = 1 })
    else if n == 13 then Some (record { full = 22; low = 2 })
    else None

-- the full channels of AC-3 (ETSI TS 102 366, 4.4.2.3): 0 is two separate ones
abbrev pub ac3_full : ℕ → ℕ
ac3_full acmod =
    if acmod == 0 then 2 else if acmod == 1 then 1 else if acmod == 2 then 2 else if acmod == 3 then 3
    else if acmod == 4 then 3 else if acmod == 5 then 4 else if acmod == 6 then 4 else 5

abbrev pub ac3_channels : ℕ → Bool → Channels
ac3_channels acmod lfeon = record { full = ac3_full acmod; low = bit lfeon }

-- mono, stereo, another number of channels, or the two numbers with a period between them
unfoldable pub channel_text : Channels → List ℕ
channel_text c =
    if (c.low == 0) && (c.full == 1) then codes "mono"
    else if (c.low == 0) && (c.full == 2) then codes "stereo"
    else if c.low == 0 then decimal c.full ++ codes " channels"
    else decimal c.full ++ (codes "." ++ decimal c.low)
