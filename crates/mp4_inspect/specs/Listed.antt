-- The samples of a file, or its segments, and the faults that make the run fail.
use Rattle.std.specs.Prelude.{◌≡◌, ℕ, ◌==◌, not, Bool, List, length}
use Rattle.std.specs.declared.option.Option.{Option}
use Rattle.mp4_inspect_samples.specs.Chosen.{WritesChosen}
use Rattle.mp4_inspect_samples.specs.declared.choice.Choice.{Choice}
use Rattle.mp4_inspect_samples.specs.declared.fault.TrackFault.{TrackFault}

-- The samples or segments of a file are written, and its faults are stored after those before. The run fails if any is
-- stored. This is a record so that a caller's proof doesn't compute the samples.
pub record SamplesFile (choice : Choice) (file : List ℕ) (old new : Option (List ℕ)) (before after : List TrackFault)
    (faulty : Bool) : Type 0 where
  pub writes : WritesChosen choice.segments choice file old new before after
  pub is_faulty : faulty ≡ not (length after == 0)
