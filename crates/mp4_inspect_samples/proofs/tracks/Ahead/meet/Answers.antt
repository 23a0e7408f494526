use Rattle.std.proofs.Common.{◌∙◌, Bool, ap}
use Rattle.std.specs.Prelude.{◌==◌, ◌||◌}
use Rattle.mp4_inspect_samples.proofs.TrackLists.{left_after, taken_is}
use Rattle.mp4_inspect_samples.proofs.tracks.Ahead.meet.Goals as goal
use Rattle.mp4_inspect_samples.specs.Samples.{is_met}
use Rattle.mp4_inspect_samples.specs.Trafs.{list_of, with_id}

pub returns-clause-trafs : goal.returns-clause-trafs
returns-clause-trafs c = λ trafs met ahead.
    c.take-trafs.ensures.taken ∙ ap list_of (ahead.left c.args.track)
    ∙ taken_is (is_met c.args.track met) (with_id c.args.track trafs)

pub returns-clause-met : goal.returns-clause-met
returns-clause-met c = λ trafs met ahead. record {
  known = λ q.
      c.in_ok-keep_id.ensures q ∙ ap (λ (b : Bool). b || (c.args.track == q)) (ahead.known q);
  left = λ q.
      c.take-trafs.ensures.left q
      ∙ left_after (c.args.track == q) (is_met q met) (with_id q trafs) _ (ahead.left q);
}
