use Rattle.std.proofs.Common.{arith}
use Rattle.mp4_samples.proofs.LastSync.{sorted, nothing_past, last_one}
use Rattle.mp4_samples.proofs.syncs.last_listed.Goals as goal

pub count_at_most-count-requires : goal.count_at_most-count-requires
count_at_most-count-requires c = sorted c.args.numbers.now c.requires

pub returns-then-count-eq0-clause-none : goal.returns-then-count-eq0-clause-none
returns-then-count-eq0-clause-none c =
    λ y le. nothing_past c.args.numbers.now c.args.limit c.count_at_most-count.result c.requires
    c.count_at_most-count.ensures y le (λ some. absurd (omega arith))

pub returns-clause-some : goal.returns-clause-some
returns-clause-some c =
    last_one c.args.numbers.now c.args.limit c.count_at_most-count.result c.requires c.count_at_most-count.ensures
    (omega arith)
