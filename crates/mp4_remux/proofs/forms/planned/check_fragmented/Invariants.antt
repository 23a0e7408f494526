-- The movie is unchanged, and the tables of the tracks before this one list no samples.
use Rattle.std.proofs.Common.{◌≡◌}
use Rattle.mp4_remux.proofs.BothForms.{EmptySoFar}
use Rattle.mp4_remux.proofs.forms.planned.check_fragmented.Given as goal

abbrev pub invariant-loop-number : goal.invariant-loop-number
invariant-loop-number g l = record {
  movie : l.movie ≡ l.fn.movie;
  empty : EmptySoFar l.number l.fn.movie.bytes;
}
