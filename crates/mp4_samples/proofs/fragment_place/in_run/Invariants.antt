use Rattle.std.proofs.Common.{◌≡◌, ◌-◌, length}
use Rattle.mp4_samples.specs.FragmentPlaces.{IsAt, number_at}
use Rattle.mp4_samples.proofs.fragment_place.in_run.Given as goal

abbrev pub invariant-loop-at : goal.invariant-loop-at
invariant-loop-at l = record {
  at : IsAt l.fragment l.at;
  same : number_at l.fragment l.at ≡ number_at l.fragment l.fn.place;
}

abbrev pub decreases-loop-at : goal.decreases-loop-at
decreases-loop-at l = length l.fragment.runs.now - l.at.run
