-- The time is the sum of the durations of the entries before the index.
use Rattle.std.proofs.Common.{◌≡◌, take}
use Rattle.mp4_info.specs.Durations.{edited_time}
use Rattle.mp4_info.proofs.durations.edited_time.Given as goal

abbrev pub invariant-loop-index : goal.invariant-loop-index
invariant-loop-index l = l.time ≡ edited_time (take l.index l.entries)
