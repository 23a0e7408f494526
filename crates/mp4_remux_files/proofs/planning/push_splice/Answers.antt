use Rattle.mp4_remux_files.proofs.Plans.{splice_pushed}
use Rattle.mp4_remux_files.proofs.planning.push_splice.Goals as goal

pub returns : goal.returns
returns c = λ B window.
    splice_pushed B c.args.begin c.args.at c.args.movie.now c.args.splice.now c.args.plan.now c.push.new.plan
    c.push_movie.new.plan c.in_ok-push.ensures (rw c.as_slice.ensures.value at c.in_ok-push_movie.ensures) window
