-- The boxes that are passed are counted.
use Rattle.std.proofs.Common.{◌≡◌, ◌≤◌, take, length}
use Rattle.std.specs.Prelude.{filter}
use Rattle.mp4_remux.specs.Sized.{is_on_top}
use Rattle.mp4_remux.proofs.edits.sized.count_tops.Given as goal

abbrev pub invariant-loop-found : goal.invariant-loop-found
invariant-loop-found l = record {
  counted : l.count ≡ length (filter is_on_top (take l.found-index l.boxes));
  few : l.count ≤ l.found-index;
}
