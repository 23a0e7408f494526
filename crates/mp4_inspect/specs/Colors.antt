-- The colours of lines.
use Rattle.std.specs.Prelude.{Bool, true, false}
use Rattle.mp4_inspect.specs.declared.request.Color.{Color}
use Rattle.mp4_inspect.specs.declared.request.Color.TheVariants as colors

-- `shows` says whether the output is a terminal that shows colours
abbrev pub has_color : Color → Bool → Bool
has_color colors.Auto shows = shows
has_color colors.Always _ = true
has_color colors.Never _ = false
