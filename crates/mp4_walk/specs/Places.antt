-- The positions of a file's boxes: each whole box is a frame of the content that encloses it.
use Rattle.std.specs.Prelude.{◌≡◌, ℕ, ◌+◌, ◌<◌, ◌≤◌, true, List, length, take, Some, Ok, ◌⊎◌}
use Rattle.std.specs.List.{Contains}
use Rattle.mp4_frame.specs.FourCC.{four_cc_of}
use Rattle.mp4_frame.specs.Heads.{frame, end_in}
use Rattle.mp4_frame.specs.declared.frame.Frame.{Frame}
use Rattle.mp4_walk.specs.Tops.{is_whole}
use Rattle.mp4_walk.specs.declared.tree_box.TreeBox.{TreeBox}

-- a level of this depth that ends at `end` includes position o. It is the top level of the file, or the content of one
-- of these boxes, whose depth is one less. Then o is after a header, and the level ends at the end of the box or before
-- it
abbrev pub IsAround : List ℕ → List TreeBox → ℕ → ℕ → ℕ → Type 0
IsAround B boxes depth end o = ((depth ≡ 0) × (end ≡ length B))
    ⊎ ((y : TreeBox) × Contains boxes y × (depth ≡ y.depth + 1) × (y.position + 8 ≤ o) × (end ≤ y.position + y.length))

-- the box is a frame of these bytes, with the same code and end
abbrev pub IsFrame : List ℕ → TreeBox → Type 0
IsFrame bytes x = (f : Frame) × (frame bytes x.position ≡ Ok f) × (x.code ≡ Some (four_cc_of f.code))
    × (x.position + x.length ≡ end_in f)

-- the box is at the top level or in another box, and if it is whole, it is a frame of that level
abbrev pub IsPlaced : List ℕ → List TreeBox → TreeBox → Type 0
IsPlaced B boxes x = (end : ℕ) × IsAround B boxes x.depth end x.position × (x.position < end) × (end ≤ length B)
    × (is_whole x.state ≡ true → IsFrame (take end B) x)
