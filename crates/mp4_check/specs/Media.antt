-- The media data of a file: the contents of its `mdat` boxes (ISO/IEC 14496-12, 8.1.1).
use Rattle.std.specs.Prelude.{ℕ, ◌+◌, ◌-◌, ◌^◌, ◌≤◌, ⊤, Bool, nat_le, min, max, filter, map, List, [], ◌∷◌}
use Rattle.std.specs.Prelude.{Some, if◌then◌else◌}
use Rattle.std.specs.declared.option.Option.{Option}
use Rattle.mp4_check.specs.declared.extent.Extent.{Extent}
use Rattle.mp4_frame.specs.FourCC.{four_cc_of}
use Rattle.mp4_frame.specs.declared.codes.TheConstants as codes
use Rattle.mp4_walk.specs.Paths.{is_meant}
use Rattle.mp4_walk.specs.declared.tree_box.TreeBox.{TreeBox}

-- an `mdat` of the top level
abbrev pub is_media : TreeBox → Bool
is_media x = is_meant 0 (four_cc_of codes.MDAT) x

-- the content of a box that is present in a file of this length
abbrev pub extent_of : ℕ → TreeBox → Extent
extent_of length x =
    let begin = min (x.position + x.header_length) (2 ^ 64 - 1) in
    record { begin = begin; end = max (min (x.position + x.length) length) begin }

abbrev pub media_of : ℕ → List TreeBox → List Extent
media_of length boxes = map (extent_of length) (filter is_media boxes)

-- the last that begins at the offset or before it, up to the first that begins after it
abbrev pub media_at : Option Extent → List Extent → ℕ → Option Extent
media_at last [] offset = last
media_at last (m ∷ ms) offset = if nat_le m.begin offset then media_at (Some m) ms offset else last

-- each begins at or after the one before it, and the first at or after n
abbrev pub AreInOrder : ℕ → List Extent → Type 0
AreInOrder n [] = ⊤
AreInOrder n (m ∷ ms) = (n ≤ m.begin) × AreInOrder m.begin ms
