-- The boxes that are left have no codes yet.
use Rattle.std.proofs.Common.{◌≡◌, ◌-◌, ◌≤◌, ◌++◌, drop, length}
use Rattle.mp4_diff.specs.Differences.{codes_of}
use Rattle.mp4_diff.proofs.changes.codes_of.Given as goal

abbrev pub invariant-boxes : goal.invariant-boxes
invariant-boxes l = record {
  few : length l.codes.items ≤ 64;
  so_far : l.codes.items ++ codes_of (64 - length l.codes.items) l.depth (drop l.found-index l.boxes)
      ≡ codes_of 64 l.depth l.boxes;
}
