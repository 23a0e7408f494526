-- The boxes of the level that are passed are counted.
use Rattle.std.proofs.Common.{◌≡◌, ◌-◌, ◌≤◌, drop}
use Rattle.std.specs.Prelude.{slice_get}
use Rattle.mp4_remux.specs.Edits.{level_of}
use Rattle.mp4_remux.proofs.edits.inserting.nth_in.Given as goal

abbrev pub invariant-loop-found : goal.invariant-loop-found
invariant-loop-found l = record {
  few : l.count ≤ l.number;
  same :
      slice_get (level_of l.parent (drop l.found-index l.boxes)) (l.number - l.count)
      ≡ slice_get (level_of l.parent l.boxes) l.number;
}
