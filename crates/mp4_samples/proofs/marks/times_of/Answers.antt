use Rattle.std.proofs.Common.{◌≡◌, ℕ, ◌+◌, ◌-◌, ◌*◌, ◌^◌, ◌<◌, ◌≤◌, length, get_or, refl, sym, ap, arith}
use Rattle.mp4_samples.specs.Runs.{sum_before}
use Rattle.mp4_samples.proofs.Pushed.{each_push, long_push}
use Rattle.mp4_samples.proofs.RunSums.{sum_none, sum_next}
use Rattle.mp4_samples.proofs.FirstSamples.{sums_order}
use Rattle.mp4_samples.proofs.TimeMarks.{count, entry, none, product}
use Rattle.mp4_samples.proofs.marks.times_of.Goals as goal

pub loop-index-init : goal.loop-index-init
loop-index-init c = record {
  items = rw c.in_ok-times.ensures.items refl;
  long = omega (arith, c.in_ok-times.ensures.len);
  room = omega (arith, c.in_ok-times.ensures.exact);
  is = λ i lt. absurd (omega arith);
  fits = λ i lt. absurd (omega arith);
  now = λ lt. sym (sum_none product c.args.entries.now);
  small = λ lt. omega arith;
}

pub overflow_add-time : goal.overflow_add-time
overflow_add-time c =
    let l = c.loop-index in
    let lt : l.index < length c.args.firsts.now = omega arith in
    let below = c.requires.below l.index lt in
    omega (arith, l.invariant.small lt, below, c.min-samples.ensures, c.time_of-time.ensures.bound)

pub loop-index-preserved : goal.loop-index-preserved
loop-index-preserved c =
    let es = c.args.entries.now in
    let firsts = c.args.firsts.now in
    let l = c.loop-index in
    let inv = l.invariant in
    let i = l.index in
    let items = c.push_reserved.ensures.items in
    let samples = c.min-samples.result in
    let lt : i < length firsts = omega arith in
    let within : i < length es = omega (arith, lt, c.requires.firsts.within) in
    let now = inv.now lt in
    let small = inv.small lt in
    let whole : i + 1 < length firsts → (samples ≡ (entry es i).sample_count) × (get_or firsts (i + 1) 0
    ≡ get_or firsts i 0 + samples) = λ more.
    let first = c.requires.firsts.is i lt in
    let second = c.requires.firsts.is (i + 1) more in
    let below = c.requires.below (i + 1) more in
    let next = sum_next count es i none within in
    let all : samples ≡ (entry es i).sample_count = omega (arith, first, second, below, next, c.min-samples.ensures) in
    (all, omega (arith, first, second, next, all)) in
    record {
      items = long_push _ l.times.items l.time i items inv.items;
      long = omega (arith, c.push_reserved.ensures.len, inv.long);
      room = omega (arith, c.push_reserved.ensures.capacity, inv.room);
      is = each_push (λ j v. v ≡ sum_before product es j) _ l.times.items l.time i items inv.items inv.is now;
      fits = each_push (λ j v. v ≤ get_or firsts j 0 * (2 ^ 32 - 1)) _ l.times.items l.time i items inv.items inv.fits
          small;
      now = λ more.
          let own = ap (λ (n : ℕ). n * (entry es i).sample_delta) (whole more).0 in
          omega (arith, sum_next product es i none within, own, now, c.time_of-time.ensures.value);
      small = λ more.
          omega (arith, (whole more).1, small, c.time_of-time.ensures.bound);
    }

pub returns-clause-marks : goal.returns-clause-marks
returns-clause-marks c =
    let es = c.args.entries.now in
    let l = c.loop-index in
    let inv = l.invariant in
    let all : length l.times.items ≡ length c.args.firsts.now = omega (arith, inv.items) in
    let is : (i : ℕ) → i < length l.times.items → get_or l.times.items i 0 ≡ sum_before product es i =
    λ i lt. inv.is i (omega (arith, lt, inv.items)) in
    record {
      each = all;
      order = sums_order product es l.times.items (omega (arith, all, c.requires.firsts.within)) is;
      is = is;
      fits = λ i lt. inv.fits i (omega (arith, lt, inv.items));
    }
