-- The samples before the next one are looked at.
use Rattle.std.proofs.Common.{◌≡◌, false}
use Rattle.std.specs.Prelude.{IfSome}
use Rattle.mp4_check.specs.Looked.{LooksTo, nothing}
use Rattle.mp4_check.proofs.samples.sample_walk.look_at_runs.Given as goal
use Rattle.mp4_samples.specs.FragmentGives.{number_of}
use Rattle.mp4_samples.specs.Fragments.{IsFragmentSample}

abbrev pub invariant-loop : goal.invariant-loop
invariant-loop g l = record {
  kept : l.walk ≡ l.fn.walk;
  fragment : l.samples.fragment ≡ l.fragment;
  on : l.samples.ended ≡ false;
  looks : IfSome l.fn.walk.bytes (λ file.
      LooksTo (IsFragmentSample l.fragment) file l.kinds (nothing l.left) (number_of l.samples) l.looked);
}
