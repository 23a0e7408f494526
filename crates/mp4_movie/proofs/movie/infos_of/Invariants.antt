-- The answers in the list, followed by those for the remaining tracks, are the answers for all tracks.
use Rattle.std.proofs.Common.{◌≡◌, map}
use Rattle.std.specs.Prelude.{IfSome}
use Rattle.mp4_movie.specs.Movies.{found_at}
use Rattle.mp4_movie.proofs.Tracks.{InfosSoFar}
use Rattle.mp4_movie.proofs.movie.infos_of.Given as goal

abbrev pub invariant-loop-number : goal.invariant-loop-number
invariant-loop-number g l = record {
  kept : l.walk ≡ l.fn.walk;
  so_far : IfSome l.fn.walk.bytes (λ file. InfosSoFar file (map (found_at l.boxes) l.places) l.number l.tracks.items);
}
