-- The NAL units of a sample of AVC or HEVC (ISO/IEC 14496-15, 5.3.3 and 8.3.3): each is a length of w bytes, and that
-- many bytes after it. They have to fill the sample exactly.
use Rattle.std.specs.Prelude.{ℕ, zero, suc, ◌+◌, ◌-◌, nat_lt, nat_le, List, None, Some, if◌then◌else◌}
use Rattle.std.specs.declared.option.Option.{Option}
use Rattle.mp4_frame.specs.Bytes.{number}

-- the end of the unit at a position, by its length
abbrev pub unit_end : List ℕ → ℕ → ℕ → ℕ
unit_end file w at = at + w + number file at w

-- the first unit that starts at a position or later and ends after the sample, among the next k
unfoldable pub past_among : ℕ → List ℕ → ℕ → ℕ → ℕ → Option ℕ
past_among zero file w end at = None
past_among (suc k) file w end at =
    if nat_le end at then None else if nat_lt end (unit_end file w at) then Some at else
    past_among k file w end (unit_end file w at)

-- the position of the first unit of a sample that ends after the sample. A unit takes a byte at least
abbrev pub past_unit : List ℕ → ℕ → ℕ → ℕ → Option ℕ
past_unit file w begin end = past_among (end - begin) file w end begin
