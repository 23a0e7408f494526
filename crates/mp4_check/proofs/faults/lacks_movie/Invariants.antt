-- No box before the current one makes a file.
use Rattle.std.proofs.Common.{◌≡◌, drop}
use Rattle.std.specs.List.{list_any}
use Rattle.mp4_check.specs.Faults.{is_top_file}
use Rattle.mp4_check.proofs.faults.lacks_movie.Given as goal

abbrev pub invariant-loop-found : goal.invariant-loop-found
invariant-loop-found l = list_any is_top_file l.boxes ≡ list_any is_top_file (drop l.found-index l.boxes)
