use Rattle.std.proofs.Common.{◌∙◌, ap}
use Rattle.mp4_walk.specs.Walk.{Walk}
use Rattle.mp4_lemmas.proofs.Outcomes.{both_known}
use Rattle.mp4_movie.proofs.Chains.{some_then}
use Rattle.mp4_movie.proofs.Tracks.{no_one, other_on, this_one}
use Rattle.mp4_movie.proofs.movie.number_at.Goals as goal

pub returns-then-branch-clause-value : goal.returns-then-branch-clause-value
returns-then-branch-clause-value g c =
    both_known _ _ (ap (λ (w : Walk). w.bytes) c.loop-number.invariant.kept) c.loop-number.invariant.others
    c.in_ok-has_id.ensures.value
    (λ file h has. this_one file c.args.boxes.now c.args.places.now c.loop-number.number c.args.id _
    c.boxes_after.result.now c.in_ok-has_id.field-0 c.loop-number-test.true c.boxes_after.ensures
    c.if-branch.true has h)

pub loop-number-preserved : goal.loop-number-preserved
loop-number-preserved g c = record {
  kept = c.has_id.ensures.kept ∙ c.loop-number.invariant.kept;
  others = both_known _ _ (ap (λ (w : Walk). w.bytes) c.loop-number.invariant.kept) c.loop-number.invariant.others
      c.in_ok-has_id.ensures.value
      (λ file h has. other_on file c.args.boxes.now c.args.places.now c.loop-number.number c.args.id _
      c.boxes_after.result.now c.in_ok-has_id.field-0 c.loop-number-test.true c.boxes_after.ensures c.if-branch.false
      has h);
}

pub returns-clause-value : goal.returns-clause-value
returns-clause-value g c =
    some_then _ _ _
    (λ file h. no_one file c.args.boxes.now c.args.places.now c.loop-number.number c.args.id c.loop-number-test.false h)
    c.loop-number.invariant.others
