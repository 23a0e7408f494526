use Rattle.std.proofs.Common.{◌≡◌, ◌-◌, ◌<◌, length, sym, arith}
use Rattle.mp4_samples.proofs.RunSums.{sum_none}
use Rattle.mp4_samples.proofs.TimeMarks.{product}
use Rattle.mp4_samples.proofs.lookup.time_mark.Goals as goal

pub returns-then-marked-eq0-clause-at : goal.returns-then-marked-eq0-clause-at
returns-then-marked-eq0-clause-at c = λ k low.
    let index : c.run_mark-run.result.index ≡ 0 = omega (arith, c.run_mark-run.ensures.index) in
    record {
      run = c.run_mark-run.ensures.at k low;
      time = rw index (sym (sum_none product c.args.entries.now));
      fits = omega arith;
    }

pub returns-clause-at : goal.returns-clause-at
returns-clause-at c = λ k low.
    let i = c.args.marked - 1 in
    let run = c.run_mark-run.ensures.at k low in
    let index = c.run_mark-run.ensures.index in
    let inside : i < length c.args.times.now = omega (arith, c.requires.times.each, c.requires.within) in
    let first = rw index at run.first in
    let is = c.requires.firsts.is i (omega (arith, c.requires.within)) in
    record {
      run = run;
      time = rw index (c.requires.times.is i inside);
      fits = omega (arith, first, is, c.requires.times.fits i inside);
    }

pub returns-clause-time : goal.returns-clause-time
returns-clause-time c = λ t low. low (omega arith)
