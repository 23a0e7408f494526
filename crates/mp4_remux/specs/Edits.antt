-- The splices that edits name, by the boxes of the file.
use Rattle.std.specs.Prelude.{ℕ, ◌≡◌, ◌≢◌, ◌+◌, ◌==◌, ◌&&◌, ◌⊎◌, All, Bool, IsTrue, true, false, not}
use Rattle.std.specs.Prelude.{List, [], ◌∷◌, length, drop, filter, nat_lt, codes, slice_get, None, Some, Ok, Result}
use Rattle.std.specs.Prelude.{if◌then◌else◌}
use Rattle.std.specs.List.{AllZip}
use Rattle.std.specs.List.Sorted.{IsPermutation}
use Rattle.std.specs.declared.option.Option.{Option}
use Rattle.mp4_frame.specs.Bytes.{number}
use Rattle.mp4_frame.specs.FourCC.{four_cc_of}
use Rattle.mp4_frame.specs.declared.codes.TheConstants as known
use Rattle.mp4_movie.specs.Levels.{first_in}
use Rattle.mp4_movie.specs.Movies.{track_id}
use Rattle.mp4_movie.specs.Problems.{Problem, ◌>>=◌}
use Rattle.mp4_movie.specs.Reads.{required}
use Rattle.mp4_tables.specs.Boxes.{reads_tfhd}
use Rattle.mp4_walk.specs.FileBoxes.{boxes_of}
use Rattle.mp4_walk.specs.Paths.{at_path, is_code}
use Rattle.mp4_walk.specs.Tops.{is_whole}
use Rattle.mp4_walk.specs.declared.path.BoxPath.{BoxPath}
use Rattle.mp4_walk.specs.declared.tree_box.TreeBox.{TreeBox}
use Rattle.mp4_remux.specs.Splices.{box_end}
use Rattle.mp4_remux.specs.declared.edits.edit.Edit.{Edit}
use Rattle.mp4_remux.specs.declared.edits.edit.Edit.TheVariants.{Remove, Replace, Insert, Hide}
use Rattle.mp4_remux.specs.declared.edits.edit.Parent.{Parent}
use Rattle.mp4_remux.specs.declared.edits.edit.Parent.TheVariants as parents
use Rattle.mp4_remux.specs.declared.edits.splice.Splice.{Splice}

-- the box at a path of the file B, which is whole
abbrev pub IsAt : List ℕ → BoxPath → TreeBox → Type 0
IsAt B path x = (at_path 0 path.parts.items (boxes_of B) ≡ Some x) × IsTrue (is_whole x.state)

-- the splice replaces the whole box
pub record Covers (x : TreeBox) (s : Splice) : Type 0 where
  pub depth : s.depth ≡ x.depth
  pub begin : s.begin ≡ x.position
  pub end : s.end ≡ box_end x

-- the track_ID of a part of a track in a fragment (ISO/IEC 14496-12, 8.8.7). `traf` begins with the boxes inside its
-- `traf`
abbrev pub fragment_id : List ℕ → List TreeBox → Result ℕ Problem
fragment_id B traf =
    required reads_tfhd known.TFHD B (first_in 2 (four_cc_of known.TFHD) traf) >>= λ v. Ok v.track_id

-- the box is the track of this track_ID, or a part of it in a fragment. `xs` begins with the boxes inside it
abbrev pub IsOfTrack : List ℕ → ℕ → TreeBox → List TreeBox → Type 0
IsOfTrack B id x xs =
    (IsTrue (is_code (four_cc_of known.TRAK) x.code) × (track_id B xs ≡ Ok id))
    ⊎ (IsTrue (is_code (four_cc_of known.TRAF) x.code) × (fragment_id B xs ≡ Ok id))

-- the splice makes a `free` box of this box, which begins at position `at` and is in one box, as a `trak` or `traf` is
pub record Hides (at : ℕ) (x : TreeBox) (s : Splice) : Type 0 where
  pub position : x.position ≡ at
  pub nested : x.depth ≡ 1
  pub depth : s.depth ≡ 2
  pub begin : s.begin ≡ at + 4
  pub end : s.end ≡ at + 8
  pub bytes : s.bytes.items ≡ codes "free"

-- y is a child of x
abbrev pub is_child : TreeBox → TreeBox → Bool
is_child x y = (y.depth == x.depth + 1) && nat_lt x.position y.position && nat_lt y.position (box_end x)

abbrev pub is_top_box : TreeBox → Bool
is_top_box x = x.depth == 0

-- the box is in a level: in the top level of the file, or in a box
abbrev pub is_in_level : Option TreeBox → TreeBox → Bool
is_in_level None y = is_top_box y
is_in_level (Some x) y = is_child x y

-- the boxes of a level
abbrev pub level_of : Option TreeBox → List TreeBox → List TreeBox
level_of parent boxes = filter (is_in_level parent) boxes

-- the position after the last of these boxes, which are those of a level that ends at `end`. What is not a whole box,
-- such as QuickTime's terminator of a `udta`, is behind them
abbrev pub after_last : List TreeBox → ℕ → ℕ
after_last [] end = end
after_last (x ∷ xs) end = if is_whole x.state then after_last xs end else x.position

-- the position before box n of a level, or after the last one
abbrev pub IsPlace : List TreeBox → ℕ → Option ℕ → ℕ → Type 0
IsPlace xs end None at = at ≡ after_last xs end
IsPlace xs end (Some n) at = (x : TreeBox) × (slice_get xs n ≡ Some x) × (at ≡ x.position)

-- a box of the top level that ends with the file has a size (ISO/IEC 14496-12, 4.2), so that it doesn't take in the
-- bytes after it
abbrev pub IsClosed : List ℕ → TreeBox → Type 0
IsClosed B x = x.depth ≡ 0 → box_end x ≡ length B → number B x.position 4 ≢ 0

-- the splice inserts bytes into the top level of the file B or into a box, before a child or after the last one
abbrev pub Inserts : List ℕ → Parent → Option ℕ → Splice → Type 0
Inserts B parents.File before s =
    (s.depth ≡ 0) × (s.end ≡ s.begin) × IsPlace (level_of None (boxes_of B)) (length B) before s.begin
    × All (IsClosed B) (boxes_of B)
Inserts B (parents.In path) before s =
    (x : TreeBox) × IsAt B path x × (s.depth ≡ x.depth + 1) × (s.end ≡ s.begin)
    × IsPlace (level_of (Some x) (boxes_of B)) (box_end x) before s.begin

-- the splice of an edit of the file B
abbrev pub IsSpliceOf : List ℕ → Edit → Splice → Type 0
IsSpliceOf B (Remove path) s = (x : TreeBox) × IsAt B path x × Covers x s × (s.bytes.items ≡ [])
IsSpliceOf B (Replace path bytes) s = (x : TreeBox) × IsAt B path x × Covers x s × (s.bytes.items ≡ bytes.items)
IsSpliceOf B (Insert parent before bytes) s = Inserts B parent before s × (s.bytes.items ≡ bytes.items)
IsSpliceOf B (Hide at id) s =
    (n : ℕ) × (x : TreeBox) × (slice_get (boxes_of B) n ≡ Some x) × IsOfTrack B id x (drop (n + 1) (boxes_of B))
    × Hides at x s

abbrev pub is_hiding : Edit → Bool
is_hiding (Hide at id) = true
is_hiding _ = false

-- the edit hides a box; or else it doesn't
abbrev pub is_kind : Bool → Edit → Bool
is_kind true e = is_hiding e
is_kind false e = not (is_hiding e)

-- these are the splices of these edits, in any order
abbrev pub Name : List ℕ → List Edit → List Splice → Type 0
Name B edits ss = (given : List Splice) × AllZip (IsSpliceOf B) edits given × IsPermutation given ss

-- The edits name these splices: those that hide the boxes of dropped tracks, and the others
pub record AreNamed (B : List ℕ) (edits : List Edit) (hidden splices : List Splice) : Type 0 where
  pub hide : Name B (filter (is_kind true) edits) hidden
  pub change : Name B (filter (is_kind false) edits) splices
