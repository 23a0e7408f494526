-- The earlier changes have no difference.
use Rattle.std.proofs.Common.{◌≡◌, [], take}
use Rattle.mp4_diff.specs.Differences.{places_of}
use Rattle.mp4_diff.proofs.changes.differ.Given as goal

abbrev pub invariant-changes : goal.invariant-changes
invariant-changes l = record {
  so_far : places_of (take l.index l.changes) ≡ [];
}
