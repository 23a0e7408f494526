-- The faults of the track_IDs that are left follow those of the track_IDs before them.
use Rattle.std.proofs.Common.{◌≡◌, ◌++◌, map}
use Rattle.std.specs.BTreeMap.{keys}
use Rattle.mp4_inspect_samples.proofs.tracks.keep_all_missing.Given as goal
use Rattle.mp4_inspect_samples.specs.Samples.{missing}

abbrev pub invariant-loop-track : goal.invariant-loop-track
invariant-loop-track l =
    l.faults.items ++ map missing l.track-iterator ≡ l.fn.faults.items ++ map missing (keys l.fragments.by_track)
