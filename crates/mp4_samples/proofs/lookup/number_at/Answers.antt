use Rattle.std.proofs.Common.{◌-◌, arith}
use Rattle.mp4_samples.proofs.lookup.number_at.Goals as goal

pub number_from-requires-clause-at : goal.number_from-requires-clause-at
number_from-requires-clause-at c =
    c.time_mark-place.ensures.at c.args.tables.now.stsz.now.sample_count (λ some.
    let below = c.requires.below (c.long_count_at_most-started.result - 1)
    (omega (arith, c.long_count_at_most-started.ensures.within, some, c.requires.time_marks.each)) in
    omega (arith, below))

pub number_from-requires-clause-started : goal.number_from-requires-clause-started
number_from-requires-clause-started c =
    c.time_mark-place.ensures.time c.args.time
    (λ some. c.long_count_at_most-started.ensures.low _ (omega (arith, some)))
