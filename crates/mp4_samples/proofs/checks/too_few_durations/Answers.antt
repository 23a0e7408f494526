use Rattle.std.proofs.Common.{◌≡◌, ◌+◌, ◌-◌, ◌<◌, ◌≤◌, length, arith, rules}
use Rattle.mp4_samples.specs.Runs.{durations, sum_before}
use Rattle.mp4_samples.proofs.RunSums.{sum_order, at_front}
use Rattle.mp4_samples.proofs.TimeMarks.{count, duration_count}
use Rattle.mp4_samples.proofs.checks.too_few_durations.Goals as goal

pub run_of-run-requires : goal.run_of-run-requires
run_of-run-requires c = at_front count c.args.entries.now (c.args.count - 1)

pub returns-then-run-entries-clause-none : goal.returns-then-run-entries-clause-none
returns-then-run-entries-clause-none c =
    let es = c.args.entries.now in
    let i = c.run_of-run.result.index in
    let order = sum_order count es (i + 1) (length es) (omega arith) (omega arith) in
    let holds : c.args.count - 1 < sum_before count es (i + 1) = c.run_of-run.ensures.holds (omega arith) in
    let le : c.args.count ≤ length (durations es) = omega (arith, order, duration_count es, holds) in
    (λ _. le, λ _. search rules)

pub returns-else-run-entries-clause-none : goal.returns-else-run-entries-clause-none
returns-else-run-entries-clause-none c =
    let es = c.args.entries.now in
    let at = c.run_of-run.ensures.at in
    let all : c.run_of-run.result.index ≡ length es = omega (arith, at.within) in
    let first = rw all at at.first in
    (λ some. absurd (search rules), λ le. absurd (omega (arith, first, duration_count es, at.begun)))

pub returns-else-run-entries-clause-some : goal.returns-else-run-entries-clause-some
returns-else-run-entries-clause-some c =
    let es = c.args.entries.now in
    let at = c.run_of-run.ensures.at in
    let all : c.run_of-run.result.index ≡ length es = omega (arith, at.within) in
    let first = rw all at at.first in
    (omega (arith, first, duration_count es), omega (arith, at.begun))
