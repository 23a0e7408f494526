use Rattle.std.proofs.Common.{◌≡◌, ◌-◌, length, sym, arith}
use Rattle.mp4_samples.proofs.RunSums.{sum_next, at_next}
use Rattle.mp4_samples.proofs.TimeMarks.{count, none, product, duration_count, start_is, duration_is}
use Rattle.mp4_samples.proofs.run_place.times_from.Goals as goal

pub overflow_add-start : goal.overflow_add-start
overflow_add-start c = omega (arith, c.loop-at.invariant.fits, c.loop-at.invariant.run.begun, c.time_of.ensures.bound)

pub returns-then-passed-count-clause-start : goal.returns-then-passed-count-clause-start
returns-then-passed-count-clause-start c =
    let at = c.loop-at.invariant in
    let p = c.loop-at.at.run in
    let start = start_is c.args.entries.now p.index (c.args.number - p.first) c.args.number (omega arith)
    (omega (arith, at.run.first, at.run.begun)) (omega arith) in
    omega (arith, start, at.time, c.time_of.ensures.value)

pub returns-then-passed-count-clause-duration : goal.returns-then-passed-count-clause-duration
returns-then-passed-count-clause-duration c =
    let at = c.loop-at.invariant in
    let p = c.loop-at.at.run in
    sym (duration_is c.args.entries.now p.index (c.args.number - p.first) c.args.number (omega arith)
    (omega (arith, at.run.first, at.run.begun)) (omega arith))

pub returns-then-passed-count-clause-at : goal.returns-then-passed-count-clause-at
returns-then-passed-count-clause-at c =
    let at = c.loop-at.invariant in
    record {
      run = at_next count c.args.entries.now c.args.number c.loop-at.at.run at.run;
      time = at.time;
      fits = at.fits;
    }

pub loop-at-preserved : goal.loop-at-preserved
loop-at-preserved c =
    let es = c.args.entries.now in
    let at = c.loop-at.invariant in
    let i = c.loop-at.at.run.index in
    let samples = sum_next count es i none (omega arith) in
    let time = sum_next product es i none (omega arith) in
    record {
      run = record {
        within = omega arith;
        first = omega (arith, samples, at.run.first);
        begun = omega (arith, at.run.begun);
      };
      time = omega (arith, time, at.time, c.time_of-in-loop-at.ensures.value);
      fits = omega (arith, at.fits, c.time_of-in-loop-at.ensures.bound);
    }

pub returns : goal.returns
returns c =
    let at = c.loop-at.invariant in
    let all : c.loop-at.at.run.index ≡ length c.args.entries.now = omega (arith, at.run.within) in
    let first = rw all at at.run.first in
    absurd (omega (arith, first, at.run.begun, duration_count c.args.entries.now, c.requires.timed))
