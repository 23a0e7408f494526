use Rattle.std.proofs.Common.{◌∙◌, ap}
use Rattle.mp4_info.specs.contracts.facts.InfoBoxesReadsInfo.TheImpl as own
use Rattle.mp4_info.proofs.Clauses.{tracks_known}
use Rattle.mp4_info.proofs.Tracks.{track_on}
use Rattle.mp4_info.proofs.facts.tracks_in.Goals as goal
use Rattle.mp4_lemmas.proofs.Outcomes.{both_known}
use Rattle.mp4_movie.specs.Levels.{Found}
use Rattle.mp4_walk.specs.Walk.{Walk}

pub tracks-preserved : goal.tracks-preserved
tracks-preserved g c =
    let f : Found = record { box = c.in-Some.place.found; after = c.in-Some.place.after.now } in
    record {
      kept = c.in_ok-facts.ensures.kept ∙ c.tracks.invariant.kept;
      so_far = both_known _ _ (ap (λ (w : Walk). w.bytes) c.tracks.invariant.kept) c.tracks.invariant.so_far
          c.in_ok-facts.ensures.value
          (λ file h here. λ moofs are. track_on (own.ghosts).readings file moofs c.args.movie_timescale
          c.args.movie.now c.tracks.rest.now f c.tracks.tracks.items _ _ c.in-Some.ensures.first
          c.in_ok-push_track.ensures (here moofs are) (h moofs are));
    }

pub returns-clause-value : goal.returns-clause-value
returns-clause-value g c =
    tracks_known (own.ghosts).readings c.args.walk.now.bytes c.args.fragments.now c.args.movie_timescale
    c.args.movie.now c.tracks.rest.now c.tracks.tracks.items c.in_default.ensures.first c.tracks.invariant.so_far
