-- The search in the boxes that are left has the same result. The boxes of the part that are passed are counted.
use Rattle.std.proofs.Common.{◌≡◌, ◌-◌, ◌≤◌, drop, List}
use Rattle.std.specs.declared.option.Option.{Option}
use Rattle.mp4_walk.specs.Paths.{inside, of_nth}
use Rattle.mp4_walk.specs.declared.tree_box.TreeBox.{TreeBox}
use Rattle.mp4_remux.proofs.edits.finding.spot_in.Given as goal

abbrev pub invariant-loop-index : goal.invariant-loop-index
invariant-loop-index l = record {
  few : l.before ≤ l.part.index;
  same :
      (next : TreeBox → List TreeBox → Option TreeBox)
      → of_nth next l.depth l.part.code (l.part.index - l.before) (inside l.depth (drop l.index l.boxes))
      ≡ of_nth next l.depth l.part.code l.part.index (inside l.depth l.boxes);
}
