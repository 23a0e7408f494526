use Rattle.std.proofs.Common.{sym, arith}
use Rattle.mp4_samples.proofs.RunSums.{sum_next}
use Rattle.mp4_samples.proofs.run_place.run_of.Goals as goal

pub returns-then-number-at-clause-holds : goal.returns-then-number-at-clause-holds
returns-then-number-at-clause-holds g c =
    let entry = c.index-entries-at.result in
    let next = rw (sym c.index-entries-at.is) at (sum_next g.R.Run.count c.args.entries.now c.loop-at.at.index entry
    (omega arith)) in
    λ _. omega (arith, next, c.loop-at.invariant.first, c.count-count.ensures)

pub loop-at-preserved : goal.loop-at-preserved
loop-at-preserved g c =
    let entry = c.index-entries-at.result in
    let next = rw (sym c.index-entries-at.is) at (sum_next g.R.Run.count c.args.entries.now c.loop-at.at.index entry
    (omega arith)) in
    record {
      within = omega arith;
      first = omega (arith, next, c.loop-at.invariant.first, c.count-count.ensures);
      begun = omega arith;
    }
