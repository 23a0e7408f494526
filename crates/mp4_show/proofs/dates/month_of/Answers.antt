use Rattle.std.proofs.Common.{◌∙◌, arith}
use Rattle.mp4_show.proofs.Days.{month_passes, month_stays, month_stops}
use Rattle.mp4_show.proofs.dates.month_of.Goals as goal

pub returns-then-day-long-clause-place : goal.returns-then-day-long-clause-place
returns-then-day-long-clause-place c =
    month_stops c.loop-left.left c.args.year c.loop-left.month c.loop-left.day c.days_in_month-long.result
    c.loop-left-test.true c.days_in_month-long.ensures c.if-day-long.true
    ∙ c.loop-left.invariant.same

pub loop-left-preserved : goal.loop-left-preserved
loop-left-preserved c = record {
  passed = omega arith;
  less = omega arith;
  same = month_passes c.loop-left.left c.args.year c.loop-left.month c.loop-left.day c.days_in_month-long.result
      c.loop-left-test.true c.days_in_month-long.ensures c.if-day-long.false
      ∙ c.loop-left.invariant.same;
}

pub returns-clause-place : goal.returns-clause-place
returns-clause-place c =
    month_stays c.loop-left.left c.args.year c.loop-left.month c.loop-left.day c.loop-left-test.false
    ∙ c.loop-left.invariant.same
