-- The sums over runs, and over samples of a run, with one more run or sample.
use Rattle.std.proofs.Common.{◌≡◌, ℕ, zero, suc, ℤ, pos, ◌+◌, ◌+ℤ◌, ◌<◌, length, false, eqb, refl, sym, ap, arith}
use Rattle.std.specs.List.{sum_by}
use Rattle.std.proofs.lemmas.List.Sums.{fold_more, sum_by_more, sum_by_more_le}
use Rattle.std.proofs.lemmas.List.{take_all}
use Rattle.std.proofs.lemmas.Bool.{ne_eqb}
use Rattle.std.proofs.lemmas.Int.{ints}
use Rattle.mp4_tables.specs.declared.trun.TrunBox.{TrunBox}
use Rattle.mp4_samples.specs.declared.fragment.Fragment.{Fragment}
use Rattle.mp4_samples.specs.Fragments.{size_in, duration_in, bytes_before, time_before, base_of, start_after, run_end}
use Rattle.mp4_samples.specs.Fragments.{runs_end, time_of_runs, samples_of_runs, run_at, no_run, sample_offset}
use Rattle.mp4_samples.specs.FragmentPlaces.{offset_before}
use Rattle.mp4_samples.specs.FragmentGives.{sample_total}
use Rattle.mp4_samples.proofs.Through.{sum_next}

pub no_bytes : (f : Fragment) (t : TrunBox) → bytes_before f t 0 ≡ 0
unfolding bytes_before
no_bytes f t = refl

pub no_time : (f : Fragment) (t : TrunBox) → time_before f t 0 ≡ 0
unfolding time_before
no_time f t = refl

pub bytes_more : (f : Fragment) (t : TrunBox) (j : ℕ) → bytes_before f t (j + 1) ≡ bytes_before f t j + size_in f t j
unfolding bytes_before
bytes_more f t j =
    let next = sum_next (size_in f t) 0 j (j + 1) refl in
    let here : 0 + j ≡ j = omega arith in
    rw here at next

pub time_more : (f : Fragment) (t : TrunBox) (j : ℕ) → time_before f t (j + 1) ≡ time_before f t j + duration_in f t j
unfolding time_before
time_more f t j =
    let next = sum_next (duration_in f t) 0 j (j + 1) refl in
    let here : 0 + j ≡ j = omega arith in
    rw here at next

pub no_runs_end : (f : Fragment) → runs_end f 0 ≡ pos (base_of f)
unfolding runs_end
no_runs_end f = refl

pub no_runs_time : (f : Fragment) → time_of_runs f 0 ≡ 0
unfolding time_of_runs
no_runs_time f = refl

pub no_runs_samples : (f : Fragment) → samples_of_runs f 0 ≡ 0
unfolding samples_of_runs
no_runs_samples f = refl

pub runs_end_more : (f : Fragment) (r : ℕ) → r < length f.runs.now
    → runs_end f (r + 1) ≡ run_end f (runs_end f r) (run_at f r)
unfolding runs_end
runs_end_more f r lt = fold_more (run_end f) (pos (base_of f)) f.runs.now r no_run lt

pub runs_time_more : (f : Fragment) (r : ℕ) → r < length f.runs.now
    → time_of_runs f (r + 1) ≡ time_of_runs f r + time_before f (run_at f r) (run_at f r).sample_count
unfolding time_of_runs
runs_time_more f r lt = sum_by_more (λ t. time_before f t t.sample_count) f.runs.now r no_run lt

pub runs_samples_more : (f : Fragment) (r : ℕ) → r < length f.runs.now
    → samples_of_runs f (r + 1) ≡ samples_of_runs f r + (run_at f r).sample_count
unfolding samples_of_runs
runs_samples_more f r lt = sum_by_more (λ (t : TrunBox). t.sample_count) f.runs.now r no_run lt

-- The first sample of a run begins where the run does.
pub first_offset : (f : Fragment) (r : ℕ)
    → sample_offset f r 0 ≡ start_after (base_of f) (runs_end f r) (run_at f r).data_offset
first_offset f r = omega (arith, ints, no_bytes f (run_at f r))

pub next_offset : (f : Fragment) (r j : ℕ)
    → sample_offset f r (j + 1) ≡ sample_offset f r j +ℤ pos (size_in f (run_at f r) j)
next_offset f r j = omega (arith, ints, bytes_more f (run_at f r) j)

pub opened : (f : Fragment) (r j : ℕ) (end : ℤ) → j ≡ 0 → end ≡ offset_before f r j
    → start_after (base_of f) end (run_at f r).data_offset ≡ sample_offset f r j
opened f r zero end none is = rw is (sym (first_offset f r))
opened f r (suc j) end none is = absurd (omega arith)

pub past_first : (f : Fragment) (r j : ℕ) → offset_before f r (j + 1) ≡ sample_offset f r (j + 1)
past_first f r j =
    let no : eqb (j + 1) 0 ≡ false = ne_eqb (j + 1) 0 (λ is. omega arith) in
    rw no refl

pub run_done : (f : Fragment) (r j : ℕ) → r < length f.runs.now → j ≡ (run_at f r).sample_count
    → sample_offset f r j ≡ runs_end f (r + 1)
run_done f r j lt is = rw is (sym (runs_end_more f r lt))

pub room : (f : Fragment) (r j : ℕ) → r < length f.runs.now → j < (run_at f r).sample_count
    → samples_of_runs f r + j < sample_total f
unfolding samples_of_runs
room f r j lt counted =
    let part = sum_by_more_le (λ (t : TrunBox). t.sample_count) f.runs.now r no_run lt in
    let whole = ap (sum_by (λ (t : TrunBox). t.sample_count)) (take_all (length f.runs.now) f.runs.now (omega arith)) in
    omega (arith, part, whole, counted)
