use Rattle.std.proofs.Common.{◌∙◌, arith}
use Rattle.mp4_show.proofs.Days.{year_passes, year_stays, year_stops}
use Rattle.mp4_show.proofs.dates.year_of.Goals as goal

pub returns-then-day-long-clause-place : goal.returns-then-day-long-clause-place
returns-then-day-long-clause-place c =
    year_stops c.loop-left.left c.loop-left.year c.loop-left.day c.days_in_year-long.result c.loop-left-test.true
    c.days_in_year-long.ensures c.if-day-long.true
    ∙ c.loop-left.invariant.same

pub loop-left-preserved : goal.loop-left-preserved
loop-left-preserved c = record {
  passed = omega arith;
  less = omega arith;
  same = year_passes c.loop-left.left c.loop-left.year c.loop-left.day c.days_in_year-long.result c.loop-left-test.true
      c.days_in_year-long.ensures c.if-day-long.false
      ∙ c.loop-left.invariant.same;
}

pub returns-clause-place : goal.returns-clause-place
returns-clause-place c =
    year_stays c.loop-left.left c.loop-left.year c.loop-left.day c.loop-left-test.false ∙ c.loop-left.invariant.same
