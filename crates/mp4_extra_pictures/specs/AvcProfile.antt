-- The profiles of AVC whose configuration also has the format of samples (ISO/IEC 14496-15, 5.3.3.1.2): all except
-- Baseline (66), Main (77) and Extended (88). Earlier editions name the profiles 100, 110, 122 and 144 instead.
use Rattle.std.specs.Prelude.{ℕ, Bool, not, ◌==◌, ◌||◌}

abbrev pub has_format : ℕ → Bool
has_format profile = not ((profile == 66) || ((profile == 77) || (profile == 88)))
