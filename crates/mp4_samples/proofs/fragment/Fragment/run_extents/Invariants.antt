-- The runs before the current one end at `reached`, and their extents are listed.
use Rattle.std.proofs.Common.{◌≡◌, length, map, ◌-◌, vec_len, vec_capacity}
use Rattle.std.specs.List.{range_with_len}
use Rattle.mp4_samples.specs.FragmentPlaces.{IsReached}
use Rattle.mp4_samples.specs.RunExtents.{extent_at}
use Rattle.mp4_samples.proofs.fragment.Fragment.run_extents.Given as goal

abbrev pub invariant-runs : goal.invariant-runs
invariant-runs l = record {
  at : IsReached l.self l.reached;
  long : vec_len l.extents ≡ l.reached.run;
  room : vec_capacity l.extents ≡ length l.self.runs.now;
  items : l.extents.items ≡ map (extent_at l.self) (range_with_len 0 l.reached.run);
}

abbrev pub decreases-runs : goal.decreases-runs
decreases-runs l = length l.self.runs.now - l.reached.run
