use Rattle.std.proofs.lemmas.Result.{on_ok_weaker}
use Rattle.mp4_remux.specs.Tracks.{teller_of}
use Rattle.mp4_remux.specs.Parts.{run_teller}
use Rattle.mp4_remux.proofs.CutTracks.{span_of}
use Rattle.mp4_remux.proofs.parts.check.check_span.Goals as goal

pub returns : goal.returns
returns c =
    on_ok_weaker c.check_samples.result
    (λ keeps. span_of c.args.plan.now c.args.first.now c.args.last.now c.args.were.now c.args.are.now c.args.old.now
    c.args.new.now (teller_of c.in_ok-all.all) (teller_of c.in_ok-after.after) c.first_number-begin.result
    c.in_ok-end.end c.in_ok-shift.shift c.saturating_sub.result (run_teller c.in_ok-before.before)
    c.in_ok-all.ensures.teller c.in_ok-after.ensures.teller c.first_number-begin.ensures c.in_ok-end.ensures
    c.saturating_sub.ensures c.in_ok-before.ensures.teller keeps) c.check_samples.ensures
