-- The listed boxes, followed by those that remain, are those that remained at first. Each turn consumes bytes.
use Rattle.std.proofs.Common.{◌≡◌, ◌++◌}
use Rattle.std.specs.Prelude.{IfSome}
use Rattle.mp4_walk.specs.Walk.{bytes_left, left}
use Rattle.mp4_walk.proofs.rest.rest_of.Given as goal

abbrev pub invariant-loop-boxes : goal.invariant-loop-boxes
invariant-loop-boxes g l = record {
  bytes : l.walk.bytes ≡ l.fn.walk.bytes;
  length : l.walk.length ≡ l.fn.walk.length;
  boxes : IfSome l.fn.walk.bytes (λ file. l.boxes.items ++ left file l.walk ≡ left file l.fn.walk);
}

abbrev pub decreases-loop-boxes : goal.decreases-loop-boxes
decreases-loop-boxes g l = bytes_left l.walk
