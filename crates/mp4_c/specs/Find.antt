-- The box at a path, for C.
use Rattle.std.specs.Prelude.{◌≡◌, ℕ, ◌⊎◌, ◌==◌, nat_lt, List, drop, length, None, Some, if◌then◌else◌}
use Rattle.std.specs.Str.{IsUtf8}
use Rattle.std.specs.declared.option.Option.{Option}
use Rattle.mp4_c.specs.Found.{code_or_zero}
use Rattle.mp4_c.specs.declared.find.Place.{Place}
use Rattle.mp4_c_boxes.specs.declared.status.TheConstants as statuses
use Rattle.mp4_frame.specs.Bytes.{number}
use Rattle.mp4_walk.specs.PathText.{ArePathParts, IsFirstFault}
use Rattle.mp4_walk.specs.Paths.{at_path}
use Rattle.mp4_walk.specs.Tops.{is_whole}
use Rattle.mp4_walk.specs.FileBoxes.{boxes_of}
use Rattle.mp4_walk.specs.declared.path.PathError.{PathError}
use Rattle.mp4_walk.specs.declared.path.PathPart.{PathPart}
use Rattle.mp4_walk.specs.declared.tree_box.TreeBox.{TreeBox}
use Rattle.mp4_walk.specs.declared.tree_box.BoxState.{BoxState}
use Rattle.mp4_walk.specs.declared.tree_box.BoxState.TheVariants as states

-- the struct of a box whose header has this length and states this length of the box
abbrev pub place_as : TreeBox → ℕ → ℕ → Place
place_as x header size = record {
  position = x.position;
  length = size;
  header_length = header;
  code = code_or_zero x.code;
  is_whole = if is_whole x.state then 1 else 0;
}

-- the struct of a box with the size in the 8 bytes after the code; None if the header at the front of these bytes isn't
-- whole
abbrev pub large_place : TreeBox → List ℕ → Option Place
large_place x head = if nat_lt (length head) 16 then None else Some (place_as x 16 (number head 8 8))

-- the struct of a box with the size that the header at the front of these bytes states (ISO/IEC 14496-12, 4.2): in the
-- first 4 bytes, or if they are 1 in the 8 bytes after the code
abbrev pub stated_place : TreeBox → List ℕ → Option Place
stated_place x head =
    if nat_lt (length head) 8 then None else
    if number head 0 4 == 1 then large_place x head else
    Some (place_as x 8 (number head 0 4))

-- the struct of a box in this state. If the size is smaller than the header, both lengths are those that the header
-- states; a box whose header isn't whole has no struct
abbrev pub place_in : List ℕ → TreeBox → BoxState → Option Place
place_in B x states.NoHeader = None
place_in B x states.Small = stated_place x (drop x.position B)
place_in B x _ = Some (place_as x x.header_length x.length)

-- the struct of a box of a file
abbrev pub place_of : List ℕ → TreeBox → Option Place
place_of B x = place_in B x x.state

abbrev pub place_of_found : List ℕ → Option TreeBox → Option Place
place_of_found B None = None
place_of_found B (Some x) = place_of B x

abbrev pub FillsPlace : Option Place → ℕ → Place → Place → Type 0
FillsPlace None status old new = (status ≡ statuses.BOX_NOT_FOUND) × (new ≡ old)
FillsPlace (Some place) status old new = (status ≡ statuses.OK) × (new ≡ place)

-- The struct is that of the box, if one is found and has a struct; else it is as it was.
abbrev pub FillsFound : List ℕ → Option TreeBox → ℕ → Place → Place → Type 0
FillsFound B found status old new = FillsPlace (place_of_found B found) status old new

-- The struct is that of the box at the path, unless memory is refused.
abbrev pub FindsAt : List ℕ → List PathPart → ℕ → Place → Place → Type 0
FindsAt B path status old new =
    FillsFound B (at_path 0 path (boxes_of B)) status old new
    ⊎ ((status ≡ statuses.OUT_OF_MEMORY) × (new ≡ old))

-- The text isn't UTF-8, or a part of it is no part of a path.
abbrev pub IsNoPath : List ℕ → Type 0
IsNoPath text = ¬ (IsUtf8 text) ⊎ ((e : PathError) × IsFirstFault text e)

-- The struct is that of the box at the path that the text stands for; or the text stands for no path; or memory is
-- refused.
abbrev pub Finds : List ℕ → List ℕ → ℕ → Place → Place → Type 0
Finds B text status old new =
    ((path : List PathPart) × IsUtf8 text × ArePathParts text path × FindsAt B path status old new)
    ⊎ (((status ≡ statuses.INVALID_DATA) × IsNoPath text × (new ≡ old))
    ⊎ ((status ≡ statuses.OUT_OF_MEMORY) × (new ≡ old)))
