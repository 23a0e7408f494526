-- The times of edits (ISO/IEC 14496-12, 8.6.6).
use Rattle.std.specs.Prelude.{ℕ, ℤ, ◌==◌, ◌&&◌, nat_lt, if◌then◌else◌}
use Rattle.std.specs.Int.{w32, w64, cast_signed}

-- a media time with its sign: it has 32 bits in version 0, and 64 in version 1
abbrev pub signed_time : ℕ → ℕ → ℤ
signed_time version time =
    if (version == 0) && nat_lt time 0x100000000 then cast_signed w32 time else cast_signed w64 time
