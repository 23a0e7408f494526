-- The boxes that are passed are counted.
use Rattle.std.proofs.Common.{◌≡◌, ◌≤◌, take, length}
use Rattle.std.specs.Prelude.{filter}
use Rattle.mp4_remux_files.specs.EditedMovie.{is_before}
use Rattle.mp4_remux_files.proofs.edited.count_before.Given as goal

abbrev pub invariant-loop-found : goal.invariant-loop-found
invariant-loop-found l = record {
  counted : l.count ≡ length (filter (is_before l.at) (take l.found-index l.boxes));
  few : l.count ≤ l.found-index;
}
