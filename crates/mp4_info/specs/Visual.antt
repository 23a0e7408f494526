-- The profile and level of MPEG-4 video (ISO/IEC 14496-2, 6.2.2), for the string of its codec.
use Rattle.std.specs.Prelude.{ℕ, ◌==◌, ◌&&◌, nat_lt, Bool, List, [], ◌∷◌, length, slice_index, None, Some}
use Rattle.std.specs.Prelude.{if◌then◌else◌}
use Rattle.std.specs.Option.{option_or}
use Rattle.std.specs.declared.option.Option.{Option}

-- the bytes begin with the start code of a visual object sequence, 0x1B0, and a byte follows it
abbrev pub is_start : List ℕ → Bool
is_start bytes =
    nat_lt 4 (length bytes)
    && ((slice_index bytes 0 == 0)
    && ((slice_index bytes 1 == 0) && ((slice_index bytes 2 == 1) && (slice_index bytes 3 == 0xB0))))

-- the byte after a start code with which the bytes begin
unfoldable pub level_in : List ℕ → Option ℕ
level_in bytes = if is_start bytes then Some (slice_index bytes 4) else None

-- the byte after the first start code
abbrev pub visual_level : List ℕ → Option ℕ
visual_level [] = None
visual_level (b ∷ bs) = option_or (level_in (b ∷ bs)) (visual_level bs)
