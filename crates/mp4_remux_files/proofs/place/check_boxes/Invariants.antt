-- The walk is the same, and the boxes that are passed are no obstacles.
use Rattle.std.proofs.Common.{◌≡◌, take}
use Rattle.mp4_remux_files.specs.Places.{IsSteady}
use Rattle.mp4_remux_files.proofs.place.check_boxes.Given as goal

abbrev pub invariant-loop-found : goal.invariant-loop-found
invariant-loop-found g l = record {
  walk : l.walk ≡ l.fn.walk;
  steady : IsSteady l.shift (take l.found-index l.boxes);
}
