-- The differences that are found lead to those of all boxes.
use Rattle.std.proofs.Common.{◌≡◌, [], fold, take}
use Rattle.mp4_content.specs.Paths.{AreOpen, entered}
use Rattle.mp4_diff.specs.Differences.{places_of}
use Rattle.mp4_diff.proofs.DiffSteps.{Led}
use Rattle.mp4_diff.proofs.changes.first_changes.Given as goal

abbrev pub invariant-boxes : goal.invariant-boxes
invariant-boxes g l = record {
  kept_first : l.one ≡ l.fn.one;
  kept_second : l.other ≡ l.fn.other;
  opened : AreOpen (fold entered [] (take l.index l.fn.one.boxes.items)) l.paths.levels.items;
  so_far : Led g.B.Shown.known g.B.Shown.named_reading g.B.BoxFields.shown l.offsets l.fn.one.boxes.items
      l.fn.other.boxes.items l.fn.other.numbers l.partners l.fn.one.walk.bytes l.fn.other.walk.bytes l.index
      (places_of l.changes.items);
}
