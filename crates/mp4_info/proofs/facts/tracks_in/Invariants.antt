-- The tracks in the list, followed by those that remain, are all tracks.
use Rattle.std.proofs.Common.{◌≡◌, List, length}
use Rattle.std.specs.Prelude.{IfSome}
use Rattle.mp4_info.specs.TrackPieces.{AreByTrack}
use Rattle.mp4_info.specs.contracts.facts.InfoBoxesReadsInfo.TheImpl as own
use Rattle.mp4_info.proofs.Tracks.{TracksSoFar}
use Rattle.mp4_info.proofs.facts.tracks_in.Given as goal
use Rattle.mp4_movie.specs.declared.moof.MoofFragments.{MoofFragments}

abbrev pub invariant-tracks : goal.invariant-tracks
invariant-tracks g l = record {
  kept : l.walk ≡ l.fn.walk;
  so_far : IfSome l.fn.walk.bytes (λ file. (moofs : List MoofFragments) → AreByTrack moofs l.fragments
      → TracksSoFar (own.ghosts).readings file moofs l.movie_timescale l.movie l.rest l.tracks.items);
}

abbrev pub decreases-tracks : goal.decreases-tracks
decreases-tracks g l = length l.rest
