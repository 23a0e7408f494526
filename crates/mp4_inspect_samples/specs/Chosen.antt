-- The parts of a file that the command line asks for.
use Rattle.std.specs.Prelude.{ℕ, Bool, true, false, List}
use Rattle.std.specs.declared.option.Option.{Option}
use Rattle.mp4_inspect_samples.specs.Samples.{WritesSamples}
use Rattle.mp4_inspect_samples.specs.Segments.{WritesSegments}
use Rattle.mp4_inspect_samples.specs.declared.choice.Choice.{Choice}
use Rattle.mp4_inspect_samples.specs.declared.fault.TrackFault.{TrackFault}

-- The rows of the samples of a file are written, or those of its moofs if segments are asked for. Its faults are stored
-- after those before.
abbrev pub WritesChosen : Bool → Choice → List ℕ → Option (List ℕ) → Option (List ℕ) → List TrackFault
    → List TrackFault → Type 0
WritesChosen false choice file old new before after = WritesSamples choice file old new before after
WritesChosen true choice file old new before after = WritesSegments choice file old new before after
