-- The state of a walk over the boxes of a file, and the effect of each call.
use Rattle.std.specs.Prelude.{◌≡◌, ℕ, zero, suc, ◌-◌, ◌<◌, ◌≤◌, ◌⊎◌, min, List, [], ◌∷◌, length, take}
use Rattle.mp4_c_boxes.specs.declared.status.TheConstants as statuses
use Rattle.mp4_c.specs.Found.{found_box_of}
use Rattle.mp4_c.specs.Levels.{level_at, levels_at}
use Rattle.mp4_c.specs.declared.found_box.FoundBox.{FoundBox}
use Rattle.mp4_c.specs.declared.walk_level.WalkLevel.{WalkLevel}
use Rattle.mp4_c.specs.declared.file_walk.FileWalk.{FileWalk}
use Rattle.mp4_walk.specs.Source.{IsWindow}
use Rattle.mp4_walk.specs.FileBoxes.{boxes_of}
use Rattle.mp4_walk.specs.Walk.{Nested, unwound}
use Rattle.mp4_walk.specs.declared.tree_box.TreeBox.{TreeBox}

-- the number of bytes that the walk wants: the first 28 that remain of the innermost level, or all of them if fewer
abbrev pub wanted_at : List WalkLevel → ℕ → ℕ → ℕ
wanted_at rows zero at = 0
wanted_at rows (suc depth) at = min ((level_at rows depth).end - at) 28

-- The levels of a walk are nested and end within the file, and the innermost ends after the position.
pub record IsWalk (w : FileWalk) : Type 0 where
  pub few : w.count ≤ 33
  pub nested : Nested w.length w.position (levels_at w.levels w.count)
  pub goes_on : (w.count ≡ 0) ⊎ (w.position < (level_at w.levels (w.count - 1)).end)
  pub wanted : w.wanted ≡ wanted_at w.levels w.count w.position

-- the boxes that a walk over a file with these bytes has yet to report
abbrev pub boxes_left : List ℕ → FileWalk → List TreeBox
boxes_left B w = unwound B w.position (levels_at w.levels w.count)

-- A walk that begins has yet to report all boxes of the file, whatever the bytes of the file are.
pub record Begins (n : ℕ) (w : FileWalk) : Type 0 where
  pub walk : IsWalk w
  pub size : w.length ≡ n
  pub boxes : (B : List ℕ) → length B ≡ n → boxes_left B w ≡ boxes_of B

-- The call reports a box. In every file that has the bytes that the walk wanted, this is the first of the boxes that it
-- had yet to report. The walk continues after the position of the box.
pub record Comes (bytes : List ℕ) (old new : FileWalk) (found : FoundBox) : Type 0 where
  pub enough : old.wanted ≤ length bytes
  pub box : TreeBox
  pub fields : found ≡ found_box_of box
  pub size : new.length ≡ old.length
  pub advances : old.position < new.position
  pub first : (B : List ℕ) → length B ≡ old.length → IsWindow B old.position (take old.wanted bytes)
      → boxes_left B old ≡ box ∷ boxes_left B new

-- The call reports a box. Or no box is left, or the caller gives fewer bytes than the walk wants; then the walk and the
-- struct are as they were.
abbrev pub WalksOn : List ℕ → ℕ → FileWalk → FileWalk → FoundBox → FoundBox → Type 0
WalksOn bytes status old new found_old found_new =
    ((status ≡ statuses.OK) × Comes bytes old new found_new)
    ⊎ (((status ≡ statuses.BOX_NOT_FOUND)
    × (((B : List ℕ) → boxes_left B old ≡ []) × ((new ≡ old) × (found_new ≡ found_old))))
    ⊎ ((status ≡ statuses.END_OF_INPUT) × ((length bytes < old.wanted) × ((new ≡ old) × (found_new ≡ found_old)))))
