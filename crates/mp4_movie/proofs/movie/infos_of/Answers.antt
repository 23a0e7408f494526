use Rattle.std.proofs.Common.{◌∙◌, ap}
use Rattle.mp4_walk.specs.Walk.{Walk}
use Rattle.mp4_lemmas.proofs.Outcomes.{both_known}
use Rattle.mp4_movie.proofs.Chains.{some_then}
use Rattle.mp4_movie.proofs.Tracks.{infos_all, one_more_info}
use Rattle.mp4_movie.proofs.movie.infos_of.Goals as goal

pub loop-number-preserved : goal.loop-number-preserved
loop-number-preserved g c = record {
  kept = c.info_of.ensures.kept ∙ c.loop-number.invariant.kept;
  so_far = both_known _ _ (ap (λ (w : Walk). w.bytes) c.loop-number.invariant.kept) c.loop-number.invariant.so_far
      c.in_ok-info.ensures.value
      (λ file h known. one_more_info file c.args.boxes.now c.args.places.now c.loop-number.number _
      c.loop-number.tracks.items _ c.in_ok-info.info c.loop-number-test.true c.in_ok-push.ensures.items known h);
}

pub returns-clause-value : goal.returns-clause-value
returns-clause-value g c =
    some_then _ _ _
    (λ file h. infos_all file c.args.boxes.now c.args.places.now c.loop-number.number c.loop-number.tracks.items
    c.loop-number-test.false h)
    c.loop-number.invariant.so_far
