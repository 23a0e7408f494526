use Rattle.std.proofs.Common.{◌≡◌, ◌+◌, ◌∙◌, ap, arith, rules}
use Rattle.std.specs.Int.{w128}
use mir.Val.{SFits}
use Rattle.std.proofs.lemmas.Int.{to_z-of_z}
use Rattle.mp4_tables.specs.declared.trun.TrunBox.{TrunBox}
use Rattle.mp4_samples.specs.Fragments.{run_at, time_before}
use Rattle.mp4_samples.proofs.Fragments.{no_time, run_done, runs_time_more, runs_samples_more}
use Rattle.mp4_samples.proofs.fragment_place.after_run.Goals as goal

pub returns-clause-at : goal.returns-clause-at
returns-clause-at c =
    let f = c.args.fragment.now in
    let p = c.args.place in
    let count = ap (λ (t : TrunBox). t.sample_count) c.requires.run in
    let all : p.index ≡ (run_at f p.run).sample_count = omega (arith, count, c.requires.done, c.requires.at.counted) in
    let fits : SFits w128 c.begin_of.result = search rules in
    let kept = to_z-of_z w128 c.begin_of.result fits in
    let more = runs_time_more f p.run c.requires.within in
    let none = no_time f (run_at f (p.run + 1)) in
    let same = ap (time_before f (run_at f p.run)) all in
    record {
      within = omega (arith, c.requires.within);
      counted = omega arith;
      offset = kept ∙ c.begin_of.ensures ∙ run_done f p.run p.index c.requires.within all;
      time = omega (arith, more, none, same, c.requires.at.time);
    }

pub returns-clause-same : goal.returns-clause-same
returns-clause-same c =
    let f = c.args.fragment.now in
    let p = c.args.place in
    let more = runs_samples_more f p.run c.requires.within in
    omega (arith, more, ap (λ (t : TrunBox). t.sample_count) c.requires.run, c.requires.done, c.requires.at.counted)
