-- The total is that of the fragments before the index.
use Rattle.std.proofs.Common.{◌≡◌, ◌-◌, ◌^◌, min, take}
use Rattle.mp4_c.specs.FragmentSamples.{samples_in}
use Rattle.mp4_c.proofs.fragment_samples.count_of.Given as goal

abbrev pub invariant-all : goal.invariant-all
invariant-all l = l.total ≡ min (samples_in (take l.index l.fragments)) (2 ^ 64 - 1)
