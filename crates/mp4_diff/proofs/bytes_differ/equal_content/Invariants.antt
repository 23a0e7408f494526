-- The earlier bytes are equal.
use Rattle.std.proofs.Common.{◌≡◌, ◌-◌, ◌≤◌, drop}
use Rattle.std.specs.Prelude.{IfSome}
use Rattle.mp4_diff.specs.BytesDiffer.{equal_bytes}
use Rattle.mp4_diff.proofs.bytes_differ.equal_content.Given as goal

abbrev pub invariant-pieces : goal.invariant-pieces
invariant-pieces g l = record {
  within : l.at ≤ l.size;
  kept_first : l.one ≡ l.fn.one;
  kept_second : l.other ≡ l.fn.other;
  so_far : IfSome l.fn.one.bytes (λ file. IfSome l.fn.other.bytes (λ next.
      l.at ≤ equal_bytes (drop l.first.position file) (drop l.second.position next)));
}

abbrev pub decreases-pieces : goal.decreases-pieces
decreases-pieces g l = l.size - l.at
