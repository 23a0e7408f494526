-- The runs of the traf are the runs in the list and those that are left, if these can be read.
use Rattle.std.proofs.Common.{◌≡◌, length}
use Rattle.std.specs.Prelude.{IfSome}
use Rattle.mp4_movie.proofs.Trafs.{RunsSoFar}
use Rattle.mp4_movie.proofs.traf.runs_in.Given as goal

abbrev pub invariant-loop-place : goal.invariant-loop-place
invariant-loop-place g l = record {
  kept : l.walk ≡ l.fn.walk;
  so_far : IfSome l.fn.walk.bytes (λ file. RunsSoFar file l.boxes l.rest l.runs.items);
}

abbrev pub decreases-loop-place : goal.decreases-loop-place
decreases-loop-place g l = length l.rest
