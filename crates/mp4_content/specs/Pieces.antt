-- The bytes of a box in a file.
use Rattle.std.specs.Prelude.{ℕ, Bool, List, if◌then◌else◌}
use Rattle.mp4_walk.specs.Source.{content_of, piece}
use Rattle.mp4_walk.specs.declared.tree_box.TreeBox.{TreeBox}

-- the bytes of a box, or only those of its content
abbrev pub bytes_of_box : Bool → List ℕ → TreeBox → List ℕ
bytes_of_box content file x = if content then content_of file x else piece file x.position x.length
