-- A place between two samples of a fragment.
use Rattle.std.specs.Prelude.{ℕ, ℤ, pos, negsuc, ◌≡◌, ◌+◌, ◌*◌, ◌^◌, ◌≤◌, ◌≤ℤ◌, ◌==◌, length, if◌then◌else◌}
use Rattle.mp4_samples.specs.declared.fragment.Fragment.{Fragment}
use Rattle.mp4_samples.specs.declared.fragment_end.Reached.{Reached}
use Rattle.mp4_samples.specs.declared.fragment_place.FragmentPlace.{FragmentPlace}
use Rattle.mp4_samples.specs.Fragments.{run_at, runs_end, samples_of_runs, sample_offset, sample_time}

abbrev pub number_at : Fragment → FragmentPlace → ℕ
number_at f p = samples_of_runs f p.run + p.index

-- The end of the sample before sample `j` of run `r`, or of the runs before run `r` if `j` is 0.
abbrev pub offset_before : Fragment → ℕ → ℕ → ℤ
offset_before f r j = if j == 0 then runs_end f r else sample_offset f r j

pub record IsAt (f : Fragment) (p : FragmentPlace) : Type 0 where
  pub within : p.run ≤ length f.runs.now
  pub counted : p.index ≤ (run_at f p.run).sample_count
  pub offset : p.offset ≡ offset_before f p.run p.index
  pub time : p.time ≡ sample_time f p.run p.index

-- The end of the first runs, with the bounds that their bytes set.
pub record IsReached (f : Fragment) (p : Reached) : Type 0 where
  pub within : p.run ≤ length f.runs.now
  pub end : p.end ≡ runs_end f p.run
  pub low : negsuc (2 ^ 31) ≤ℤ p.end
  pub high : p.end ≤ℤ pos ((p.run + 1) * 2 ^ 65)
