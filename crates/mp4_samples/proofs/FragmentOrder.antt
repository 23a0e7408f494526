-- The order of the samples of a fragment, in their run and in time.
use Rattle.std.proofs.Common.{◌≡◌, ℕ, zero, suc, pos, ◌+◌, ◌-◌, ◌<◌, ◌≤◌, inl, inr, length}
use Rattle.std.proofs.Common.{refl, sym, ap, ◌∙◌, arith}
use Rattle.std.specs.List.{sum_by}
use Rattle.std.proofs.lemmas.Bool.{cases_lt, cases_order}
use Rattle.std.proofs.lemmas.List.{take_all, get_or_past}
use Rattle.std.proofs.lemmas.Int.{ints}
use Rattle.mp4_tables.specs.declared.trun.TrunBox.{TrunBox}
use Rattle.mp4_samples.specs.declared.sample.Sample.{Sample}
use Rattle.mp4_samples.specs.declared.fragment.Fragment.{Fragment}
use Rattle.mp4_samples.specs.Fragments.{IsSampleOfRun, time_before, bytes_before}
use Rattle.mp4_samples.specs.Fragments.{time_of_runs, samples_of_runs, run_at, no_run, sample_offset, sample_time}
use Rattle.mp4_samples.specs.Fragments.{size_in}
use Rattle.mp4_samples.specs.FragmentLaws.{FragmentSampleIsUnique, RunSamplesAreAdjacent, RunSamplesDoNotOverlap}
use Rattle.mp4_samples.specs.FragmentLaws.{FragmentTimesFollow, FragmentTimesDoNotDecrease, FragmentBegins}
use Rattle.mp4_samples.specs.FragmentLaws.{FragmentDurationsAddUp, FragmentCountsAddUp, FragmentSamplesAreCounted}
use Rattle.mp4_samples.proofs.Fragments.{no_time, no_runs_time, no_runs_samples, bytes_more, time_more, next_offset}
use Rattle.mp4_samples.proofs.Fragments.{runs_time_more, runs_samples_more, room}
use Rattle.mp4_samples.proofs.Rising.{rising}
use Rattle.mp4_samples.proofs.Unique.{made_alike}

module _ (f : Fragment) where
  -- A run with a sample is one of the runs of the fragment.
  is_run : (r j : ℕ) → j < (run_at f r).sample_count → r < length f.runs.now
  is_run r j lt = elim (cases_lt r (length f.runs.now)) [
    | inl less ↦ less
    | inr le ↦
        absurd (omega (arith, ap (λ (t : TrunBox). t.sample_count) (get_or_past f.runs.now r no_run le), lt))
  ]

  samples_le : (r s : ℕ) → r ≤ s → s ≤ length f.runs.now → samples_of_runs f r ≤ samples_of_runs f s
  samples_le r s le all = rising (samples_of_runs f) (length f.runs.now)
      (λ n lt. omega (arith, runs_samples_more f n lt)) r s le all

  times_le : (r s : ℕ) → r ≤ s → s ≤ length f.runs.now → time_of_runs f r ≤ time_of_runs f s
  times_le r s le all = rising (time_of_runs f) (length f.runs.now)
      (λ n lt. omega (arith, runs_time_more f n lt)) r s le all

  -- Runs without samples take no time.
  times_further : (r n : ℕ) → r + n ≤ length f.runs.now → samples_of_runs f (r + n) ≡ samples_of_runs f r
      → time_of_runs f (r + n) ≡ time_of_runs f r
  times_further r zero le is =
      let same : r + zero ≡ r = omega arith in
      rw same refl
  times_further r (suc n) le is =
      let none = no_time f (run_at f (r + n)) in
      let before = samples_le r (r + n) (omega arith) (omega arith) in
      let one : r + n + 1 ≡ r + suc n = omega arith in
      let counts : samples_of_runs f (r + suc n) ≡ samples_of_runs f (r + n) + (run_at f (r + n)).sample_count =
      rw one at (runs_samples_more f (r + n) (omega arith)) in
      let times : time_of_runs f (r + suc n) ≡ time_of_runs f (r + n) + time_before f (run_at f (r + n))
      (run_at f (r + n)).sample_count = rw one at (runs_time_more f (r + n) (omega arith)) in
      let empty : (run_at f (r + n)).sample_count ≡ 0 = omega (arith, counts, is, before) in
      let nothing = ap (time_before f (run_at f (r + n))) empty in
      omega (arith, times, nothing, none, times_further r n (omega arith) (omega (arith, counts, is, empty)))

  times_same : (r s : ℕ) → r ≤ s → s ≤ length f.runs.now → samples_of_runs f s ≡ samples_of_runs f r
      → time_of_runs f s ≡ time_of_runs f r
  times_same r s le all =
      let far : r + (s - r) ≡ s = omega arith in
      rw far at (times_further r (s - r) (omega arith))

  time_le : (t : TrunBox) (i j : ℕ) → i ≤ j → time_before f t i ≤ time_before f t j
  time_le t i j le = rising (time_before f t) j (λ n lt. omega (arith, time_more f t n)) i j le (omega arith)

  bytes_le : (t : TrunBox) (i j : ℕ) → i ≤ j → bytes_before f t i ≤ bytes_before f t j
  bytes_le t i j le = rising (bytes_before f t) j (λ n lt. omega (arith, bytes_more f t n)) i j le (omega arith)

  -- Sample `k` is sample `j` of run `r`, and sample `l` is sample `i` of run `s`.
  module _ (k l r j s i : ℕ) (here : samples_of_runs f r + j ≡ k) (counted : j < (run_at f r).sample_count)
      (there : samples_of_runs f s + i ≡ l) (counted' : i < (run_at f s).sample_count) where
    run_le : k ≤ l → r ≤ s
    run_le le = elim (cases_lt s r) [
      | inl lt ↦
          let more = runs_samples_more f s (is_run s i counted') in
          let far = samples_le (s + 1) r (omega arith) (omega (arith, is_run r j counted)) in
          absurd (omega (arith, more, far, here, there, counted', le))
      | inr le' ↦ le'
    ]

    -- Sample `k` ends before sample `l` starts.
    end_before : k < l → sample_time f r (j + 1) ≤ sample_time f s i
    end_before lt = elim (cases_order r s) [
      | inl same ↦
          let start = ap (samples_of_runs f) same in
          rw same (omega (arith, time_le (run_at f s) (j + 1) i (omega (arith, start, here, there, lt))))
      | inr rest ↦ elim rest [
        | inl less ↦
            let whole = time_le (run_at f r) (j + 1) (run_at f r).sample_count (omega (arith, counted)) in
            let more = runs_time_more f r (is_run r j counted) in
            omega (arith, whole, more, times_le (r + 1) s (omega arith) (omega (arith, is_run s i counted')))
        | inr more ↦
            absurd (omega (arith, run_le (omega arith), more))
      ]
    ]

    -- The next sample starts when sample `k` ends.
    end_at : l ≡ k + 1 → sample_time f s i ≡ sample_time f r (j + 1)
    end_at next = elim (cases_order r s) [
      | inl same ↦
          let one : i ≡ j + 1 = omega (arith, ap (samples_of_runs f) same, here, there, next) in
          rw (same, one) refl
      | inr rest ↦ elim rest [
        | inl less ↦
            let counts = runs_samples_more f r (is_run r j counted) in
            let within = is_run s i counted' in
            let far = samples_le (r + 1) s (omega arith) (omega (arith, within)) in
            let last : j + 1 ≡ (run_at f r).sample_count = omega (arith, counts, far, here, there, next, counted) in
            let first : i ≡ 0 = omega (arith, counts, far, here, there, next, counted) in
            let same = times_same (r + 1) s (omega arith) (omega (arith, within))
            (omega (arith, counts, far, here, there, next, counted)) in
            let whole = ap (time_before f (run_at f r)) last in
            let nothing = ap (time_before f (run_at f s)) first in
            omega (arith, same, runs_time_more f r (is_run r j counted), whole, no_time f (run_at f s), nothing)
        | inr more ↦
            absurd (omega (arith, run_le (omega (arith, next)), more))
      ]
    ]

stop_time : (f : Fragment) (r j : ℕ) (s : Sample) → IsSampleOfRun f r j s
    → s.start_time + s.duration ≡ sample_time f r (j + 1)
stop_time f r j s is = omega (arith, time_more f (run_at f r) j, is.start_time, is.duration)

pub follow : FragmentTimesFollow
follow f k a b (r, j, here, x) (s, i, there, y) =
    y.start_time ∙ end_at f k (k + 1) r j s i here x.counted there y.counted refl ∙ sym (stop_time f r j a x)

pub in_order : FragmentTimesDoNotDecrease
in_order f m k a b lt (r, j, here, x) (s, i, there, y) =
    omega (arith, end_before f m k r j s i here x.counted there y.counted lt, stop_time f r j a x, y.start_time)

pub apart : RunSamplesDoNotOverlap
apart f m k a b lt (r, j, here, x) (s, i, there, y) same =
    let one : r ≡ s = omega (arith, x.chunk, y.chunk, same) in
    let start = ap (samples_of_runs f) one in
    let next = next_offset f r j in
    let size = ap pos x.size in
    let begin : pos a.offset ≡ sample_offset f s j = rw one at x.offset in
    let size' : a.size ≡ size_in f (run_at f s) j = rw one at x.size in
    let more = bytes_more f (run_at f s) j in
    let le = bytes_le f (run_at f s) (j + 1) i (omega (arith, start, here, there, lt)) in
    omega (arith, ints, begin, size', more, le, y.offset)

pub adjacent : RunSamplesAreAdjacent
adjacent f k a b (r, j, here, x) (s, i, there, y) same =
    let one : r ≡ s = omega (arith, x.chunk, y.chunk, same) in
    let start = ap (samples_of_runs f) one in
    let begin : pos a.offset ≡ sample_offset f s j = rw one at x.offset in
    let size' : a.size ≡ size_in f (run_at f s) j = rw one at x.size in
    let more = bytes_more f (run_at f s) j in
    let after : i ≡ j + 1 = omega (arith, start, here, there) in
    omega (arith, ints, begin, size', more, ap (bytes_before f (run_at f s)) after, y.offset)

pub counted : FragmentSamplesAreCounted
counted f k s (r, j, here, x) = omega (arith, room f r j (is_run f r j x.counted) x.counted, here)

pub counts_add_up : FragmentCountsAddUp
unfolding samples_of_runs
counts_add_up f = ap (sum_by (λ (t : TrunBox). t.sample_count)) (take_all (length f.runs.now) f.runs.now (omega arith))

pub begins : FragmentBegins
begins f s (r, j, here, x) =
    let none = no_runs_samples f in
    let first : j ≡ 0 = omega (arith, here) in
    let within = is_run f r j x.counted in
    let same = times_same f 0 r (omega arith) (omega (arith, within)) (omega (arith, here, none)) in
    omega (arith, x.start_time, same, no_runs_time f, ap (time_before f (run_at f r)) first, no_time f (run_at f r))

all_times : (f : Fragment)
    → time_of_runs f (length f.runs.now) ≡ sum_by (λ t. time_before f t t.sample_count) f.runs.now
unfolding time_of_runs
all_times f = ap (sum_by (λ (t : TrunBox). time_before f t t.sample_count))
    (take_all (length f.runs.now) f.runs.now (omega arith))

pub durations_add_up : FragmentDurationsAddUp
durations_add_up f k s last (r, j, here, x) =
    let within = is_run f r j x.counted in
    let counts = runs_samples_more f r within in
    let far = samples_le f (r + 1) (length f.runs.now) (omega arith) (omega arith) in
    let end : j + 1 ≡ (run_at f r).sample_count = omega (arith, counts, far, here, last, x.counted) in
    let same = times_same f (r + 1) (length f.runs.now) (omega arith) (omega arith)
    (omega (arith, counts, far, here, last, end)) in
    let all = all_times f in
    omega (arith, stop_time f r j s x, same, runs_time_more f r within, ap (time_before f (run_at f r)) end, all)

one_of_run : (f : Fragment) (r j : ℕ) (a b : Sample) → IsSampleOfRun f r j a → IsSampleOfRun f r j b → a ≡ b
one_of_run f r j a b x y =
    let offset : a.offset ≡ b.offset = omega (arith, ints, x.offset, y.offset) in
    made_alike a b offset (x.size ∙ sym y.size) (x.start_time ∙ sym y.start_time) (x.duration ∙ sym y.duration)
    (x.rendering_offset ∙ sym y.rendering_offset) (x.sync ∙ sym y.sync) (x.description ∙ sym y.description)
    (x.chunk ∙ sym y.chunk)

pub unique : FragmentSampleIsUnique
unique f k a b (r, j, here, x) (s, i, there, y) =
    let le = run_le f k k r j s i here x.counted there y.counted (omega arith) in
    let ge = run_le f k k s i r j there y.counted here x.counted (omega arith) in
    let one : s ≡ r = omega (arith, le, ge) in
    let same : i ≡ j = omega (arith, ap (samples_of_runs f) one, here, there) in
    one_of_run f r j a b x (rw (one, same) at y)
