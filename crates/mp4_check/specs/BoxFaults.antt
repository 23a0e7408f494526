-- The faults of single boxes, with the boxes around them and in them, in the order of the file. Unreadable, Siblings
-- and Contents have the rules.
use Rattle.std.specs.Prelude.{ℕ, Bool, List, [], ◌∷◌, ◌++◌, map, None, Some, if◌then◌else◌}
use Rattle.std.specs.declared.option.Option.{Option}
use Rattle.mp4_check.specs.Contents.{is_unlisted, lacks_sets}
use Rattle.mp4_check.specs.FaultValues.{Value, fault_at}
use Rattle.mp4_content.specs.Paths.{path_of}
use Rattle.mp4_check.specs.Siblings.{missing, repeated}
use Rattle.mp4_check.specs.Unreadable.{unreadable}
use Rattle.mp4_check.specs.declared.fault.What.{What}
use Rattle.mp4_check.specs.declared.fault.What.TheVariants as what
use Rattle.mp4_content.specs.declared.path.Part.{Part}
use Rattle.mp4_frame.specs.Reading.{Reading}
use Rattle.mp4_frame.specs.declared.box_type.BoxType.{BoxType}
use Rattle.mp4_walk.specs.declared.tree_box.TreeBox.{TreeBox}

abbrev pub if_true : Bool → What → Option What
if_true b w = if b then Some w else None

abbrev pub missing_faults : List Part → TreeBox → List TreeBox → List Value
missing_faults path x after = map (λ w. record { position = x.position; path = path; what = w }) (missing x after)

-- the faults of a box that its siblings and the boxes in it show: it is one too many, and boxes are missing in it
abbrev pub sibling_faults : List Part → List TreeBox → TreeBox → List TreeBox → List Value
sibling_faults path before x after = fault_at x.position path (repeated before x) ++ missing_faults path x after

-- the faults of the content of a box: its sizes can't be listed, and its parameter sets are missing
abbrev pub content_faults : List ℕ → List Part → TreeBox → List Value
content_faults file path x =
    fault_at x.position path (if_true (is_unlisted file x) what.Unlisted)
    ++ fault_at x.position path (if_true (lacks_sets file x) what.WithoutSets)

module _ {A : Type 0} (known : BoxType → Bool) (reading : BoxType → List ℕ → ℕ → ℕ → Reading A) (file : List ℕ) where
  -- the faults of the first of these boxes, which has this path, after these others: it can't be read, and those above
  abbrev pub box_faults : List Part → List TreeBox → List TreeBox → List Value
  box_faults path before [] = []
  box_faults path before (x ∷ after) =
      fault_at x.position path (unreadable known reading file x)
      ++ (sibling_faults path before x after ++ content_faults file path x)

  -- the faults of these boxes, after these others
  abbrev pub faults_of_boxes : List TreeBox → List TreeBox → List Value
  faults_of_boxes before [] = []
  faults_of_boxes before (x ∷ after) =
      box_faults (path_of (before ++ x ∷ [])) before (x ∷ after) ++ faults_of_boxes (before ++ x ∷ []) after
