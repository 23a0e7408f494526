use Rattle.std.proofs.Common.{◌≡◌, ◌-◌, ◌≤◌, length}
use Rattle.std.specs.Prelude.{nat_lt, max}
use Rattle.mp4_frame.specs.Spans.{spans}
use Rattle.mp4_frame.proofs.Steps.{continue_with}
use Rattle.mp4_frame.proofs.list.list_boxes.Given as goal

abbrev pub invariant-loop-at : goal.invariant-loop-at
invariant-loop-at g l =
    record {
      told : continue_with (nat_lt 0 (length l.spans.items)) l.spans.items (spans l.bytes l.at)
          ≡ spans l.bytes l.fn.reader.position;
      least : l.fn.reader.position ≤ l.at;
      most : l.at ≤ max l.fn.reader.position (length l.bytes);
      there : l.bytes ≡ l.fn.reader.bytes.now;
    }

abbrev pub decreases-loop-at : goal.decreases-loop-at
decreases-loop-at g l = length l.bytes - l.at
