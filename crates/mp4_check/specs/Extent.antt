-- The place of bytes that should be media data. A chunk (ISO/IEC 14496-12, 8.7.5) and the samples of a run (8.8.8) have
-- to be in the content of one `mdat` (8.1.1).
use Rattle.std.specs.Prelude.{ℕ, ◌+◌, ◌&&◌, ◌||◌, Bool, nat_lt, nat_le, None, Some, if◌then◌else◌}
use Rattle.std.specs.declared.option.Option.{Option}
use Rattle.mp4_check.specs.declared.extent.Extent.{Extent}
use Rattle.mp4_check.specs.declared.extent.Lies.{Lies}
use Rattle.mp4_check.specs.declared.extent.Lies.TheVariants as lie

-- the bytes begin within the media data or at their end, and end within them
abbrev pub holds : Extent → ℕ → ℕ → Bool
holds m offset size = nat_le m.begin offset && nat_le (offset + size) m.end

-- the bytes begin at or after the end of the file, or end after it
abbrev pub is_past : ℕ → ℕ → ℕ → Bool
is_past length offset size = nat_le length offset || nat_lt length (offset + size)

-- the first case that holds
abbrev pub whereabouts : ℕ → ℕ → Option Extent → ℕ → Lies
whereabouts offset size None length = if is_past length offset size then lie.PastFile else lie.Nowhere
whereabouts offset size (Some m) length =
    if holds m offset size then lie.Inside else if is_past length offset size then lie.PastFile else
    if nat_lt offset m.end then lie.PastMedia m.end else lie.Nowhere
