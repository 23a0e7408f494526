-- The samples of a track fragment (ISO/IEC 14496-12, 8.8.3, 8.8.7, 8.8.8, 8.8.12). Runs, and the samples of a run and
-- of a fragment, are counted from 0.
use Rattle.std.specs.Prelude.{ℕ, ℤ, pos, ◌≡◌, ◌+◌, ◌+ℤ◌, ◌<◌, ◌≤◌, ◌^◌, ◌==◌, Bool, nat_lt, bit_and, [], take, fold}
use Rattle.std.specs.Prelude.{sum_by, slice_index_or, Option, Some, None, unwrap_or, if◌then◌else◌}
use Rattle.std.specs.Int.{w32, cast_signed}
use Rattle.std.specs.List.{range_with_len}
use Rattle.std.specs.Borrow.{Bor}
use Rattle.mp4_flat.specs.declared.tfdt.TfdtBox.{TfdtBox}
use Rattle.mp4_tables.specs.declared.trun.TrunBox.{TrunBox}
use Rattle.mp4_samples.specs.declared.sample.Sample.{Sample}
use Rattle.mp4_samples.specs.declared.fragment.Fragment.{Fragment}
use Rattle.mp4_samples.specs.declared.fragment.TheConstants.{DEFAULT_BASE_IS_MOOF, SAMPLE_IS_NON_SYNC}
use Rattle.mp4_samples.specs.declared.fragment_fault.FragmentFault.{FragmentFault}
use Rattle.mp4_samples.specs.declared.fragment_fault.FragmentFault.TheVariants.{Runs, Offset, Time}

abbrev pub has_flag : ℕ → ℕ → Bool
has_flag flags flag = nat_lt 0 (bit_and flags flag)

-- The defaults of the fragment (tfhd), or those of the track (trex) if the fragment has none.
abbrev pub default_duration : Fragment → ℕ
default_duration f = unwrap_or f.tfhd.now.default_sample_duration f.trex.now.default_sample_duration

abbrev pub default_size : Fragment → ℕ
default_size f = unwrap_or f.tfhd.now.default_sample_size f.trex.now.default_sample_size

abbrev pub default_flags : Fragment → ℕ
default_flags f = unwrap_or f.tfhd.now.default_sample_flags f.trex.now.default_sample_flags

abbrev pub description_in : Fragment → ℕ
description_in f = unwrap_or f.tfhd.now.sample_description_index f.trex.now.default_sample_description_index

-- The properties of sample `j` of a run: the number that the run lists for it, or the default if it lists none.
abbrev pub duration_in : Fragment → TrunBox → ℕ → ℕ
duration_in f t j = slice_index_or t.sample_durations j (default_duration f)

abbrev pub size_in : Fragment → TrunBox → ℕ → ℕ
size_in f t j = slice_index_or t.sample_sizes j (default_size f)

-- A run can have flags for its first sample, which replace the default.
abbrev pub flags_in : Fragment → TrunBox → ℕ → ℕ
flags_in f t j =
    slice_index_or t.sample_flags j
    (if j == 0 then unwrap_or t.first_sample_flags (default_flags f) else default_flags f)

abbrev pub is_sync_in : Fragment → TrunBox → ℕ → Bool
is_sync_in f t j = bit_and (flags_in f t j) SAMPLE_IS_NON_SYNC == 0

-- Composition offsets are unsigned in version 0 and signed in later versions. They are 0 where none are listed.
abbrev pub rendering_offset_in : TrunBox → ℕ → ℤ
rendering_offset_in t j = let n = slice_index_or t.sample_cts j 0 in if t.version == 0 then pos n else cast_signed w32 n

-- The bytes and the time of the first `j` samples of a run.
unfoldable pub bytes_before : Fragment → TrunBox → ℕ → ℕ
bytes_before f t j = sum_by (size_in f t) (range_with_len 0 j)

unfoldable pub time_before : Fragment → TrunBox → ℕ → ℕ
time_before f t j = sum_by (duration_in f t) (range_with_len 0 j)

-- The offset from which data offsets count: the base that the fragment names, or the start of its moof if a flag says
-- so, or otherwise the end of the data of the fragment before it.
abbrev pub base_of : Fragment → ℕ
base_of f =
    unwrap_or f.tfhd.now.base_data_offset
    (if has_flag f.tfhd.now.flags DEFAULT_BASE_IS_MOOF then f.moof else f.data_end)

-- The start of a run: its data offset, which counts from the base, or the end of the run before it.
abbrev pub start_after : ℕ → ℤ → Option ℤ → ℤ
start_after base end None = end
start_after base end (Some offset) = pos base +ℤ offset

-- The end of a run, if the run before it ends at `end`.
abbrev pub run_end : Fragment → ℤ → TrunBox → ℤ
run_end f end t = start_after (base_of f) end t.data_offset +ℤ pos (bytes_before f t t.sample_count)

-- The end of the first `r` runs, or the base if `r` is 0.
unfoldable pub runs_end : Fragment → ℕ → ℤ
runs_end f r = fold (run_end f) (pos (base_of f)) (take r f.runs.now)

-- The start time of the first sample: the time in tfdt, or the end time of the samples before the fragment.
abbrev pub start_of_in : Option (Bor TfdtBox) → ℕ → ℕ
start_of_in None end = end
start_of_in (Some b) end = b.now.base_media_decode_time

abbrev pub start_of : Fragment → ℕ
start_of f = start_of_in f.tfdt f.time_end

-- The duration and the number of the samples of the first `r` runs.
unfoldable pub time_of_runs : Fragment → ℕ → ℕ
time_of_runs f r = sum_by (λ t. time_before f t t.sample_count) (take r f.runs.now)

unfoldable pub samples_of_runs : Fragment → ℕ → ℕ
samples_of_runs f r = sum_by (λ (t : TrunBox). t.sample_count) (take r f.runs.now)

-- Run `r`, or a run without samples past the last run.
abbrev pub no_run : TrunBox
no_run = record {
  version = 0;
  flags = 0;
  sample_count = 0;
  data_offset = None;
  first_sample_flags = None;
  sample_durations = [];
  sample_sizes = [];
  sample_flags = [];
  sample_cts = [];
}

abbrev pub run_at : Fragment → ℕ → TrunBox
run_at f r = slice_index_or f.runs.now r no_run

-- The offset and the start time of sample `j` of run `r`.
abbrev pub sample_offset : Fragment → ℕ → ℕ → ℤ
sample_offset f r j =
    start_after (base_of f) (runs_end f r) (run_at f r).data_offset +ℤ pos (bytes_before f (run_at f r) j)

abbrev pub sample_time : Fragment → ℕ → ℕ → ℕ
sample_time f r j = start_of f + time_of_runs f r + time_before f (run_at f r) j

-- `s` is sample `j` of run `r`.
pub record IsSampleOfRun (f : Fragment) (r j : ℕ) (s : Sample) : Type 0 where
  pub counted : j < (run_at f r).sample_count
  pub chunk : s.chunk ≡ r + 1
  pub offset : pos s.offset ≡ sample_offset f r j
  pub size : s.size ≡ size_in f (run_at f r) j
  pub start_time : s.start_time ≡ sample_time f r j
  pub duration : s.duration ≡ duration_in f (run_at f r) j
  pub rendering_offset : s.rendering_offset ≡ rendering_offset_in (run_at f r) j
  pub sync : s.is_sync ≡ is_sync_in f (run_at f r) j
  pub description : s.sample_description_index ≡ description_in f

-- `s` is sample `k` of the fragment.
abbrev pub IsFragmentSample : Fragment → ℕ → Sample → Type 0
IsFragmentSample f k s = (r : ℕ) × (j : ℕ) × (samples_of_runs f r + j ≡ k) × IsSampleOfRun f r j s

-- `size` bytes at `z` begin at an offset of at least 0 and end below 2^64.
abbrev pub HasOffset : ℤ → ℕ → Type 0
HasOffset z size = (o : ℕ) × (pos o ≡ z) × (o + size < 2 ^ 64)

-- Sample `k` of the fragment is sample `j` of run `r`.
pub record IsPlaced (f : Fragment) (k r j : ℕ) : Type 0 where
  pub number : samples_of_runs f r + j ≡ k
  pub counted : j < (run_at f r).sample_count

-- The fault of sample `k`.
abbrev pub Faults : Fragment → ℕ → FragmentFault → Type 0
Faults f k (Runs r j) = IsPlaced f k r j × (2 ^ 32 ≤ r + 1)
Faults f k (Offset r j) = IsPlaced f k r j × ¬ HasOffset (sample_offset f r j) (size_in f (run_at f r) j)
Faults f k (Time r j) = IsPlaced f k r j × (2 ^ 64 ≤ sample_time f r j + duration_in f (run_at f r) j)
