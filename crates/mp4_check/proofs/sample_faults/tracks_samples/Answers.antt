use Rattle.std.proofs.Common.{◌≡◌, ◌∙◌, Some, ap, arith, refl}
use Rattle.mp4_check.specs.FaultValues.{values_of}
use Rattle.mp4_content.specs.Paths.{next}
use Rattle.mp4_check.proofs.Outcomes.{if_is, some_at}
use Rattle.mp4_check.proofs.SampleLoops.{all_kinds, all_tracks, more_kinds, no_kinds, no_tracks, one_track}
use Rattle.mp4_check.proofs.sample_faults.tracks_samples.Goals as goal
use Rattle.mp4_movie.specs.Levels.{Found}
use Rattle.mp4_walk.specs.Walk.{Walk}

pub tracks-init : goal.tracks-init
tracks-init g c = record {
  same = refl;
  so_far = if_is c.args.walk.now.bytes (λ file known.
      no_tracks file c.args.movie.now c.args.kept.now.left (values_of c.args.faults.now.items));
  kinds = if_is c.args.walk.now.bytes (λ file known. λ none. no_kinds file c.args.movie.now c.args.kept.now none);
}

pub tracks-preserved : goal.tracks-preserved
tracks-preserved g c =
    let l = c.tracks in
    let f : Found = record { box = c.in-Some.place.found; after = c.in-Some.place.after.now } in
    let number : c.saturating_add-number.result ≡ next l.number = omega (arith, c.saturating_add-number.ensures) in
    record {
      same = c.in_ok-track_samples.ensures.kept ∙ l.invariant.same;
      so_far = if_is c.args.walk.now.bytes (λ file known.
          let here : l.walk.bytes ≡ Some file = ap (λ (w : Walk). w.bytes) l.invariant.same ∙ known in
          one_track file c.args.movie.now l.rest.now l.number c.saturating_add-number.result c.args.kept.now.left
          l.kept.left c.track_samples.new.kept.left (values_of c.args.faults.now.items) (values_of l.faults.items)
          (values_of c.track_samples.new.faults.items) f c.in-Some.ensures.first number
          (some_at l.walk.bytes file _ here c.in_ok-track_samples.ensures.value)
          (some_at c.args.walk.now.bytes file _ known l.invariant.so_far));
      kinds = if_is c.args.walk.now.bytes (λ file known. λ none.
          let here : l.walk.bytes ≡ Some file = ap (λ (w : Walk). w.bytes) l.invariant.same ∙ known in
          let before = some_at c.args.walk.now.bytes file _ known l.invariant.kinds none in
          more_kinds file c.args.movie.now l.rest.now l.kept c.track_samples.new.kept f c.in-Some.ensures.first before
          (some_at l.walk.bytes file _ here c.in_ok-track_samples.ensures.kinds before.earlier f refl before.stored));
    }

pub returns-clause-value : goal.returns-clause-value
returns-clause-value g c =
    let l = c.tracks in
    if_is c.args.walk.now.bytes (λ file known.
    all_tracks file c.args.movie.now l.rest.now l.number c.args.kept.now.left l.kept.left
    (values_of c.args.faults.now.items) (values_of l.faults.items) c.in_default.ensures.first
    (some_at c.args.walk.now.bytes file _ known l.invariant.so_far))

pub returns-clause-kinds : goal.returns-clause-kinds
returns-clause-kinds g c =
    let l = c.tracks in
    if_is c.args.walk.now.bytes (λ file known. λ none.
    all_kinds file c.args.movie.now l.rest.now l.kept c.in_default.ensures.first
    (some_at c.args.walk.now.bytes file _ known l.invariant.kinds none))
