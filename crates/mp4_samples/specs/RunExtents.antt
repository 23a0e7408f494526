-- The runs of a fragment: the place of each and its bytes (8.8.8). Runs are counted from 0.
use Rattle.std.specs.Prelude.{ℕ, List, length, map}
use Rattle.std.specs.List.{range_with_len}
use Rattle.mp4_samples.specs.declared.fragment.Fragment.{Fragment}
use Rattle.mp4_samples.specs.declared.fragment_end.RunExtent.{RunExtent}
use Rattle.mp4_samples.specs.Fragments.{base_of, bytes_before, run_at, runs_end, start_after}

-- Run `r`.
abbrev pub extent_at : Fragment → ℕ → RunExtent
extent_at f r = record {
  begin = start_after (base_of f) (runs_end f r) (run_at f r).data_offset;
  size = bytes_before f (run_at f r) (run_at f r).sample_count;
}

-- All runs.
abbrev pub extents_of : Fragment → List RunExtent
extents_of f = map (extent_at f) (range_with_len 0 (length f.runs.now))
