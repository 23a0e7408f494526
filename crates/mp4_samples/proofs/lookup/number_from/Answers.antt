use Rattle.std.proofs.Common.{◌≡◌, ℕ, ◌+◌, ◌*◌, ◌/◌, ◌<◌, ◌≤◌, inl, inr, length, ap, arith}
use Rattle.std.proofs.lemmas.Bool.{cases_lt}
use Rattle.mp4_samples.specs.Runs.{start_of, sum_before}
use Rattle.mp4_samples.proofs.RunSums.{sum_next, start_past}
use Rattle.mp4_samples.proofs.TimeMarks.{count, value, entry, none, start_is, start_here, covers_in, quotient}
use Rattle.mp4_samples.proofs.lookup.number_from.Goals as goal

pub loop-index-init : goal.loop-index-init
loop-index-init c =
    let at = c.requires.at in
    let start = start_here c.args.entries.now c.args.count c.args.place at in
    record {
      inside = at.run.within;
      within = at.run.begun;
      start = omega (arith, start, c.requires.started);
      now = λ less. at.run.first;
    }

pub loop-index-preserved : goal.loop-index-preserved
loop-index-preserved c =
    let es = c.args.entries.now in
    let l = c.loop-index in
    let inv = l.invariant in
    let i = l.index in
    let samples = c.min-samples.result in
    let lt : i < length es = omega arith in
    let own = c.time_of-whole.ensures.value in
    record {
      inside = omega arith;
      within = omega (arith, c.min-samples.ensures, inv.within);
      start = elim (cases_lt l.first c.args.count) [
        | inl less ↦
            let now = inv.now less in
            let start = start_is es i 0 l.first lt (omega (arith, now)) (omega arith) in
            let next = start_is es i samples (l.first + samples) lt (omega (arith, now))
            (omega (arith, c.min-samples.ensures)) in
            omega (arith, start, next, own, inv.start, c.if-left-whole.false)
        | inr le ↦
            let nothing : samples ≡ 0 = omega (arith, c.min-samples.ensures, le) in
            let same : l.first + samples ≡ l.first = omega (arith, nothing) in
            rw same (omega (arith, own, ap (λ (n : ℕ). n * (entry es i).sample_delta) nothing, inv.start))
      ];
      now = λ less.
          omega (arith, sum_next count es i none lt, less, c.min-samples.ensures, inv.now);
    }

pub returns-then-left-whole-clause-covers : goal.returns-then-left-whole-clause-covers
returns-then-left-whole-clause-covers c =
    let es = c.args.entries.now in
    let l = c.loop-index in
    let inv = l.invariant in
    let i = l.index in
    let lt : i < length es = omega arith in
    let each = (entry es i).sample_delta in
    let same : c.from-each.result ≡ each = c.from-each.ensures in
    let parts = quotient c.min-samples.result each l.left
    (omega (arith, c.time_of-whole.ensures.value, c.if-left-whole.true)) in
    let now = inv.now (omega (arith, parts.1, c.min-samples.ensures, inv.within)) in
    let start = start_is es i 0 l.first lt (omega (arith, now)) (omega arith) in
    let here : l.left / c.from-each.result ≡ l.left / each = ap (λ (d : ℕ). l.left / d) same in
    covers_in es i (l.left / each) (l.first + l.left / c.from-each.result) c.args.time lt (omega (arith, now, here))
    (omega (arith, parts.1, c.min-samples.ensures)) (omega (arith, parts.2, start, inv.start))
    (omega (arith, parts.3, start, inv.start))

pub returns-clause-none : goal.returns-clause-none
returns-clause-none c =
    let es = c.args.entries.now in
    let l = c.loop-index in
    let inv = l.invariant in
    let all : l.index ≡ length es = omega (arith, inv.inside) in
    elim (cases_lt l.first c.args.count) [
      | inl less ↦
          let now : l.first ≡ sum_before count es (length es) = rw all at (inv.now less) in
          let here = start_past count value es l.first (omega (arith, now)) in
          omega (arith, here, start_past count value es c.args.count (omega (arith, now, less)), inv.start)
      | inr le ↦
          let same : l.first ≡ c.args.count = omega (arith, le, inv.within) in
          let ended : start_of es l.first ≤ c.args.time = omega (arith, inv.start) in
          rw same at ended
    ]
