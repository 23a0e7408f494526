use Rattle.std.proofs.Common.{◌≡◌, arith, refl, length}
use Rattle.mp4_samples.specs.Edits.{durations_before}
use Rattle.mp4_samples.proofs.EditTimes.{nothing_before, next_edit, through_le}
use Rattle.mp4_samples.proofs.edit_checks.wrong_duration.Goals as goal

pub loop-entry-init : goal.loop-entry-init
loop-entry-init c =
    let none = nothing_before c.args.entries.now in
    record { counted = omega arith; total = omega (arith, none); fits = omega arith }

pub loop-entry-preserved : goal.loop-entry-preserved
loop-entry-preserved c =
    let next = next_edit c.args.entries.now c.loop-entry.entry-index (omega arith) in
    record {
      counted = omega (arith, c.loop-entry.invariant.counted);
      total = omega (arith, next, c.loop-entry.invariant.total, c.in-Some.ensures);
      fits = omega (arith, c.in-Some.ensures);
    }

pub returns-in_default-clause-none : goal.returns-in_default-clause-none
returns-in_default-clause-none c =
    let all = through_le c.args.entries.now c.loop-entry.entry-index (omega arith) in
    (λ is. absurd (cc), λ less. absurd (omega (arith, all, c.loop-entry.invariant.total, c.in_default.ensures)))

pub returns-in_default-clause-some : goal.returns-in_default-clause-some
returns-in_default-clause-some c =
    let next = next_edit c.args.entries.now c.loop-entry.entry-index (omega arith) in
    rw c.loop-entry.invariant.counted (omega (arith, next, c.loop-entry.invariant.total, c.in_default.ensures))

pub returns-clause-none : goal.returns-clause-none
returns-clause-none c =
    let last : c.loop-entry.entry-index ≡ length c.args.entries.now = omega arith in
    let total : c.loop-entry.total ≡ durations_before c.args.entries.now (length c.args.entries.now) =
    rw last at c.loop-entry.invariant.total in
    (λ _. omega (arith, total, c.loop-entry.invariant.fits), λ _. refl)
