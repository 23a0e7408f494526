use Rattle.std.proofs.Common.{◌≡◌, ℕ, ◌<◌, length, get_or, refl, sym, arith}
use Rattle.mp4_samples.specs.Runs.{sum_before}
use Rattle.mp4_samples.proofs.Pushed.{each_push, long_push}
use Rattle.mp4_samples.proofs.RunSums.{sum_none, sum_next}
use Rattle.mp4_samples.proofs.FirstSamples.{sums_order}
use Rattle.mp4_samples.proofs.marks.firsts_of.Goals as goal

pub loop-run-init : goal.loop-run-init
loop-run-init g c =
    let none = sum_none g.R.Run.count c.args.entries.now in
    record {
      items = rw c.in_ok-firsts.ensures.items refl;
      long = omega (arith, c.in_ok-firsts.ensures.len);
      room = omega (arith, c.in_ok-firsts.ensures.exact);
      within = omega arith;
      is = λ i lt. absurd (omega arith);
      below = λ i lt. absurd (omega arith);
      bound = omega arith;
      most = omega arith;
      now = λ lt. sym none;
    }

pub loop-run-preserved : goal.loop-run-preserved
loop-run-preserved g c =
    let count = g.R.Run.count in
    let es = c.args.entries.now in
    let l = c.loop-run in
    let inv = l.invariant in
    let items = c.push_reserved.ensures.items in
    let entry = c.index-entries-run.result in
    let next = rw (sym c.index-entries-run.is) at (sum_next count es l.run entry (omega arith)) in
    let now = inv.now (omega arith) in
    let samples = c.min-samples.ensures in
    let each = c.count.ensures in
    record {
      items = long_push _ l.firsts.items l.first l.run items inv.items;
      long = omega (arith, c.push_reserved.ensures.len, inv.long);
      room = omega (arith, c.push_reserved.ensures.capacity, inv.room);
      within = omega arith;
      is = each_push (λ i v. v ≡ sum_before count es i) _ l.firsts.items l.first l.run items inv.items inv.is now;
      below = each_push (λ i v. v < c.args.total) _ l.firsts.items l.first l.run items inv.items inv.below
          (omega arith);
      bound = omega (arith, samples, inv.bound);
      most = omega (arith, samples, next, now, each);
      now = λ more. omega (arith, samples, next, now, each, more);
    }

pub returns-clause-marks : goal.returns-clause-marks
returns-clause-marks g c =
    let es = c.args.entries.now in
    let l = c.loop-run in
    let inv = l.invariant in
    let is : (i : ℕ) → i < length l.firsts.items → get_or l.firsts.items i 0 ≡ sum_before g.R.Run.count es i =
    λ i lt. inv.is i (omega (arith, lt, inv.items)) in
    record {
      within = omega (arith, inv.items, inv.within);
      order = sums_order g.R.Run.count es l.firsts.items (omega (arith, inv.items, inv.within)) is;
      is = is;
    }

pub returns-clause-below : goal.returns-clause-below
returns-clause-below g c = λ i lt. c.loop-run.invariant.below i (omega (arith, lt, c.loop-run.invariant.items))

pub returns-clause-all : goal.returns-clause-all
returns-clause-all g c = λ lt.
    let inv = c.loop-run.invariant in
    rw inv.items (omega (arith, lt, inv.items, inv.most))
