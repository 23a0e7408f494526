-- The bytes of the samples before `index`. Each has fewer than 2^32.
use Rattle.std.proofs.Common.{◌≡◌, ◌*◌, ◌≤◌}
use Rattle.mp4_samples.specs.Fragments.{bytes_before}
use Rattle.mp4_samples.proofs.fragment_end.bytes_of.Given as goal

abbrev pub invariant-loop-index : goal.invariant-loop-index
invariant-loop-index l = record {
  bytes : l.bytes ≡ bytes_before l.fragment l.trun l.index;
  few : l.bytes ≤ l.index * 4294967295;
}
