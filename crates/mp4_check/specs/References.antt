-- The tracks whose media data may be in other files: a data reference does not have the flag that they are in the same
-- file (ISO/IEC 14496-12, 8.7.2.1).
use Rattle.std.specs.Prelude.{ℕ, ◌-◌, ◌%◌, ◌==◌, ◌&&◌, Bool, nat_le, List, slice_index_or}
use Rattle.std.specs.List.{list_any}
use Rattle.mp4_frame.specs.declared.codes.TheConstants as codes
use Rattle.mp4_walk.specs.Paths.{inside}
use Rattle.mp4_walk.specs.Source.{content_of}
use Rattle.mp4_walk.specs.Tops.{is_whole}
use Rattle.mp4_walk.specs.declared.tree_box.TreeBox.{TreeBox}

-- an entry of a `dref`, of any code, which begins with version and flags
abbrev pub is_reference : TreeBox → Bool
is_reference x =
    (x.context.parent == codes.DREF) && (is_whole x.state && nat_le 4 (x.length - x.header_length))

-- the lowest bit of its flags is 0
abbrev pub is_elsewhere : List ℕ → Bool
is_elsewhere content = slice_index_or content 3 0 % 2 == 0

abbrev pub refers_away : List ℕ → TreeBox → Bool
refers_away file x = is_reference x && is_elsewhere (content_of file x)

-- one of the data references of a track is to another file
abbrev pub is_away : List ℕ → List TreeBox → Bool
is_away file trak = list_any (refers_away file) (inside 2 trak)
