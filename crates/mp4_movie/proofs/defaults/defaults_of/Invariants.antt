-- The stored defaults and faults come before those that are left.
use Rattle.std.proofs.Common.{◌≡◌, ℕ, length}
use Rattle.std.specs.BTreeMap.{get}
use Rattle.std.specs.Ordering.{nat_cmp}
use Rattle.std.specs.Prelude.{IfSome}
use Rattle.mp4_movie.specs.Defaults.{trexes}
use Rattle.mp4_movie.proofs.Trexes.{FaultsSoFar, SoFar}
use Rattle.mp4_movie.proofs.defaults.defaults_of.Given as goal

abbrev pub invariant-loop-place : goal.invariant-loop-place
invariant-loop-place g l = record {
  kept : l.walk ≡ l.fn.walk;
  by_track : IfSome l.fn.walk.bytes (λ file.
      SoFar file (trexes l.boxes) l.rest (λ (q : ℕ). get nat_cmp l.defaults.by_track q));
  faults : IfSome l.fn.walk.bytes (λ file. FaultsSoFar file (trexes l.boxes) l.rest l.defaults.faults.items);
}

abbrev pub decreases-loop-place : goal.decreases-loop-place
decreases-loop-place g l = length l.rest
