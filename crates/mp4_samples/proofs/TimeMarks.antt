-- The start times of runs and of their samples.
use Rattle.std.proofs.Common.{◌≡◌, ℕ, ◌+◌, ◌*◌, ◌/◌, ◌<◌, ◌≤◌, zero, suc, inl, inr, List, length, get_or, arith}
use Rattle.std.proofs.Common.{mul-le-mul_left}
use Rattle.std.proofs.lemmas.Bool.{cases_lt}
use Rattle.mp4_tables.specs.declared.stts_entry.SttsEntry.{SttsEntry}
use Rattle.mp4_samples.specs.Runs.{durations, start_of, duration_of, Covers, sum_before}
use Rattle.mp4_samples.specs.declared.run_place.TimePlace.{TimePlace}
use Rattle.mp4_samples.specs.Places.{IsAtTime}
use Rattle.mp4_samples.proofs.RunSums.{count_all, get_in, start_in, start_past}

abbrev pub none : SttsEntry
none = record { sample_count = 0; sample_delta = 0 }

abbrev pub entry : List SttsEntry → ℕ → SttsEntry
entry es i = get_or es i none

abbrev pub count : SttsEntry → ℕ
count e = e.sample_count

abbrev pub value : SttsEntry → ℕ
value e = e.sample_delta

-- The time that a run takes.
abbrev pub product : SttsEntry → ℕ
product e = e.sample_count * e.sample_delta

pub duration_count : (es : List SttsEntry) → length (durations es) ≡ sum_before count es (length es)
duration_count es = count_all count value es

-- Sample `k`, which is sample `n` of run `i`, or (for its start time) the end of this run.
pub start_is : (es : List SttsEntry) (i n k : ℕ) → i < length es → k ≡ sum_before count es i + n
    → n ≤ (entry es i).sample_count → start_of es k ≡ sum_before product es i + n * (entry es i).sample_delta
start_is es i n k lt is le = start_in count value es i n k none lt is le

pub duration_is : (es : List SttsEntry) (i n k : ℕ) → i < length es → k ≡ sum_before count es i + n
    → n < (entry es i).sample_count → duration_of es k ≡ (entry es i).sample_delta
duration_is es i n k lt is less =
    get_in count value es i n k none 0 lt is less

-- Sample `n` of run `i` covers a time if the time is at least the start of this sample and before its end.
pub covers_in : (es : List SttsEntry) (i n k time : ℕ) → i < length es → k ≡ sum_before count es i + n
    → n < (entry es i).sample_count → sum_before product es i + n * (entry es i).sample_delta ≤ time
    → time < sum_before product es i + n * (entry es i).sample_delta + (entry es i).sample_delta → Covers es time k
covers_in es i n k time lt is less low high =
    let start = start_is es i n k lt is (omega (arith, less)) in
    let lasts = duration_is es i n k lt is less in
    record { started = omega (arith, start, low); lasts = omega (arith, start, lasts, high) }

-- A run starts when the samples before it have ended.
pub start_here : (es : List SttsEntry) (k : ℕ) (p : TimePlace) → IsAtTime es k p → start_of es p.run.first ≡ p.time
start_here es k p at = elim (cases_lt p.run.index (length es)) [
  | inl lt ↦
      omega (arith, start_is es p.run.index 0 p.run.first lt (omega (arith, at.run.first)) (omega arith), at.time)
  | inr le ↦
      let all : p.run.index ≡ length es = omega (arith, le, at.run.within) in
      let first = rw all at at.run.first in
      let time = rw all at at.time in
      omega (arith, start_past count value es p.run.first (omega (arith, first)), time)
]

-- A quotient by the duration of a run, where `n` samples of the run last longer than `x`.
pub quotient : (n s x : ℕ) → x < n * s → (0 < s) × (x / s < n) × (x / s * s ≤ x) × (x < x / s * s + s)
quotient n zero x lt =
    let nothing : n * zero ≡ 0 = omega arith in
    absurd (omega (arith, nothing))
quotient n (suc s) x lt =
    let low : x / suc s * suc s ≤ x = omega arith in
    let high : x < x / suc s * suc s + suc s = omega arith in
    let fewer : x / suc s < n = elim (cases_lt (x / suc s) n) [
      | inl less ↦ less
      | inr le ↦
          absurd (omega (arith, low, lt, mul-le-mul_left (suc s) le))
    ] in
    (omega arith, fewer, low, high)
