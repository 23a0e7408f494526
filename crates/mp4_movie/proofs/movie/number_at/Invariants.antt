-- The tracks before this one have another track_ID.
use Rattle.std.proofs.Common.{◌≡◌, map}
use Rattle.std.specs.Prelude.{IfSome}
use Rattle.mp4_movie.specs.Movies.{found_at}
use Rattle.mp4_movie.proofs.Tracks.{OthersBefore}
use Rattle.mp4_movie.proofs.movie.number_at.Given as goal

abbrev pub invariant-loop-number : goal.invariant-loop-number
invariant-loop-number g l = record {
  kept : l.walk ≡ l.fn.walk;
  others : IfSome l.fn.walk.bytes (λ file. OthersBefore file (map (found_at l.boxes) l.places) l.id l.number);
}
