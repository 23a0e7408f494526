use Rattle.std.proofs.Common.{◌≡◌, ◌<◌, ◌^◌, ◌-◌, ◌*◌, min, length, ap, ◌∙◌, arith, rules}
use Rattle.mp4_inspect_samples.proofs.RunDurations.{duration_more, duration_of_all, no_duration}
use Rattle.mp4_inspect_samples.proofs.durations.run_duration.Goals as goal
use Rattle.mp4_inspect_samples.specs.Segments.{duration_before}

pub loop-index-init : goal.loop-index-init
loop-index-init c =
    let none = no_duration c.args.default c.args.run.now in
    record { total = omega (arith, none); few = omega arith }

pub loop-index-preserved : goal.loop-index-preserved
loop-index-preserved c =
    let more = duration_more c.args.default c.args.run.now c.loop-index.index in
    let small : c.duration_in.result < 2 ^ 32 = search rules in
    record {
      total = omega (arith, more, c.duration_in.ensures, c.from-total.ensures, c.loop-index.invariant.total);
      few = omega (arith, small, c.from-total.ensures, c.loop-index.invariant.few);
    }

pub returns : goal.returns
returns c =
    let d = c.args.default in
    let t = c.args.run.now in
    let n = t.sample_count in
    let m = c.min-listed.result in
    let listed : m ≡ min (length t.sample_durations) n = search rules in
    let whole = duration_of_all d t m n listed in
    let at : c.loop-index.index ≡ m = omega arith in
    let all : c.loop-index.total ≡ duration_before d t m =
    c.loop-index.invariant.total ∙ ap (duration_before d t) at in
    let rest : c.from.result * c.from-2.result ≡ (n - m) * d = search rules in
    omega (arith, whole, all, rest)
