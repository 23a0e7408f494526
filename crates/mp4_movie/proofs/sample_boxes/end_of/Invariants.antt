-- The time is the end of the samples of the entries before the index.
use Rattle.std.proofs.Common.{◌≡◌, take}
use Rattle.mp4_movie.specs.Ends.{end_of}
use Rattle.mp4_movie.proofs.sample_boxes.end_of.Given as goal

abbrev pub invariant-entries : goal.invariant-entries
invariant-entries l = l.time ≡ end_of (take l.index l.entries)
