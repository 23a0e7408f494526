-- The type of an item (ISO/IEC 14496-12, 8.11.6).
use Rattle.std.specs.Prelude.{ℕ, ◌==◌, Bool, false, Option, None, Some}
use Rattle.mp4_frame.specs.FourCC.{number_of}
use Rattle.mp4_frame.specs.declared.four_cc.FourCC.{FourCC}

-- the item has the type of this code
abbrev pub is_type : ℕ → Option FourCC → Bool
is_type code None = false
is_type code (Some c) = number_of c == code
