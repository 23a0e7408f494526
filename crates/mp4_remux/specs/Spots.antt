-- The box that a part of a path selects.
use Rattle.std.specs.Prelude.{ℕ, List, None, Some}
use Rattle.std.specs.declared.option.Option.{Option}
use Rattle.mp4_movie.specs.declared.level.BoxLocation.{BoxLocation}
use Rattle.mp4_walk.specs.Paths.{inside}
use Rattle.mp4_walk.specs.declared.tree_box.TreeBox.{TreeBox}

-- the result of a search that continues with a box of the level of depth d, and with the boxes of the level after it
abbrev pub after_spot : (TreeBox → List TreeBox → Option TreeBox) → ℕ → Option BoxLocation → Option TreeBox
after_spot next d None = None
after_spot next d (Some p) = next p.found (inside d p.after.now)
