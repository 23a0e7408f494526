-- The movie is unchanged, and the origins of the tracks before this one are checked.
use Rattle.std.proofs.Common.{◌≡◌}
use Rattle.mp4_remux.proofs.Origins.{OriginsSoFar}
use Rattle.mp4_remux.proofs.parts.origin.check_origins.Given as goal

abbrev pub invariant-loop-number : goal.invariant-loop-number
invariant-loop-number g l = record {
  movie : l.movie ≡ l.fn.movie;
  origins : OriginsSoFar l.part l.number l.fn.movie.bytes;
}
