use Rattle.std.proofs.Common.{ap}
use Rattle.std.proofs.lemmas.Result.{on_ok_weaker}
use Rattle.mp4_movie.specs.Movies.{MovieValue}
use Rattle.mp4_remux.proofs.CutTracks.{with_run_boxes}
use Rattle.mp4_remux.proofs.parts.check.check_part_track.Goals as goal

pub returns-clause-value : goal.returns-clause-value
returns-clause-value g c =
    on_ok_weaker c.check_run.result
    (λ run. with_run_boxes c.args.before.now.bytes c.args.after.now.bytes c.check_descriptions.new.before.bytes
    c.check_descriptions.new.after.bytes c.args.plan.now c.args.line c.args.start c.args.end c.args.number
    c.in_ok-were.were c.in_ok-are.are c.args.old.now c.args.new.now
    (ap (λ (m : MovieValue). m.bytes) c.check_descriptions.ensures.before)
    (ap (λ (m : MovieValue). m.bytes) c.check_descriptions.ensures.after) c.in_ok-check_descriptions.ensures.value
    c.in_ok-were.ensures.value c.in_ok-are.ensures.value run) c.check_run.ensures
