-- The progress of an iterator over the samples of a fragment, and the result of a call of `next`.
use Rattle.std.specs.Prelude.{ℕ, ℤ, ◌≡◌, ◌+◌, ◌-◌, Bool, true, false, length, Option, Some, None, Result, Ok, Err}
use Rattle.std.specs.Prelude.{if◌then◌else◌}
use Rattle.mp4_samples.specs.declared.sample.Sample.{Sample}
use Rattle.mp4_samples.specs.declared.fragment.Fragment.{Fragment}
use Rattle.mp4_samples.specs.declared.fragment_fault.FragmentFault.{FragmentFault}
use Rattle.mp4_samples.specs.Fragments.{IsFragmentSample, Faults, samples_of_runs, sample_time}
use Rattle.mp4_samples.specs.FragmentPlaces.{offset_before}

-- The fragment, the run of the iterator, the number of its samples that were returned, and true if the iterator has
-- ended.
pub record FragmentProgress : Type 0 where
  pub fragment : Fragment
  pub run : ℕ
  pub index : ℕ
  pub ended : Bool

abbrev pub begins : Fragment → FragmentProgress
begins f = record { fragment = f; run = 0; index = 0; ended = false }

-- The number of the next sample.
abbrev pub number_of : FragmentProgress → ℕ
number_of s = samples_of_runs s.fragment s.run + s.index

abbrev pub sample_total : Fragment → ℕ
sample_total f = samples_of_runs f (length f.runs.now)

abbrev pub fragment_samples_left : FragmentProgress → ℕ
fragment_samples_left s = if s.ended then 0 else sample_total s.fragment - number_of s

-- The end of the sample that was returned last, and its end time.
abbrev pub offset_of : FragmentProgress → ℤ
offset_of s = offset_before s.fragment s.run s.index

abbrev pub time_of : FragmentProgress → ℕ
time_of s = sample_time s.fragment s.run s.index

-- The next sample, or its fault, after which the iterator has ended. It is `None` only after the last sample or a
-- fault. After the last sample the iterator is past the last run.
abbrev pub GivesFragmentSample : FragmentProgress → Option (Result Sample FragmentFault) → FragmentProgress → Type 0
GivesFragmentSample s (Some (Ok x)) t =
    (s.ended ≡ false) × IsFragmentSample s.fragment (number_of s) x
    × (t.fragment ≡ s.fragment) × (number_of t ≡ number_of s + 1) × (t.ended ≡ false)
GivesFragmentSample s (Some (Err e)) t =
    (s.ended ≡ false) × Faults s.fragment (number_of s) e × (t.fragment ≡ s.fragment) × (t.ended ≡ true)
GivesFragmentSample s None t =
    (s.ended ≡ false → (number_of s ≡ sample_total s.fragment) × (t.run ≡ length s.fragment.runs.now) × (t.index ≡ 0))
    × (s.ended ≡ true → t ≡ s) × (t.fragment ≡ s.fragment) × (t.ended ≡ true)
