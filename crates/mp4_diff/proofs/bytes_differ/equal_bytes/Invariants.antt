-- The earlier bytes are equal.
use Rattle.std.proofs.Common.{◌≡◌, ◌+◌, drop}
use Rattle.mp4_diff.specs.BytesDiffer.{equal_bytes}
use Rattle.mp4_diff.proofs.bytes_differ.equal_bytes.Given as goal

abbrev pub invariant-bytes : goal.invariant-bytes
invariant-bytes l = record {
  so_far : l.index + equal_bytes (drop l.index l.first) (drop l.index l.second) ≡ equal_bytes l.first l.second;
}
