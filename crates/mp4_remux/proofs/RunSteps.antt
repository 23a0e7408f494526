-- The next sample of a run of a track.
use Rattle.std.proofs.Common.{◌≡◌, ℕ, ◌+◌, ◌<◌, ◌≤◌, sym, subst, arith}
use Rattle.mp4_samples.specs.declared.sample.Sample.{Sample}
use Rattle.mp4_remux.specs.declared.parts.run.PartTeller.{PartTeller}
use Rattle.mp4_remux.specs.Parts.{IsInRun, earlier}
use Rattle.mp4_remux.specs.Told.{IsTold, count}
use Rattle.mp4_remux.specs.TrackLaws.{one_sample}

-- the next sample is in the run
pub in_run : (r : PartTeller) (n k : ℕ) (a s : Sample) → n ≡ r.first + k → n < count r.teller → IsTold r.teller n a
    → r.shift ≤ a.start_time → s ≡ earlier r.shift a → IsInRun r k s
in_run r n k a s is lt told late same = record {
  old = a;
  counted = omega (arith, is, lt);
  is_old = subst (λ (j : ℕ). IsTold r.teller j a) is told;
  late = late;
  is = same;
}

-- there are no further samples
pub past_run : (r : PartTeller) (n k : ℕ) (s : Sample) → n ≡ r.first + k → count r.teller ≤ n → ¬ IsInRun r k s
past_run r n k s is le = λ here.
    let lt = here.counted in
    absurd (omega (arith, is, le, lt))

-- the sample does not exist
pub untold_in_run : (r : PartTeller) (n k : ℕ) (s : Sample) → n ≡ r.first + k
    → ((a : Sample) → ¬ IsTold r.teller n a) → ¬ IsInRun r k s
untold_in_run r n k s is none = λ here.
    none here.old (subst (λ (j : ℕ). IsTold r.teller j here.old) (sym is) here.is_old)

-- the sample would be decoded before 0
pub early_in_run : (r : PartTeller) (n k : ℕ) (a s : Sample) → n ≡ r.first + k → IsTold r.teller n a
    → a.start_time < r.shift → ¬ IsInRun r k s
early_in_run r n k a s is told early = λ here.
    let same : here.old ≡ a = one_sample r.teller (r.first + k) here.old a here.is_old
    (subst (λ (j : ℕ). IsTold r.teller j a) is told) in
    let late : r.shift ≤ a.start_time = subst (λ (x : Sample). r.shift ≤ x.start_time) same here.late in
    absurd (omega (arith, late, early))
