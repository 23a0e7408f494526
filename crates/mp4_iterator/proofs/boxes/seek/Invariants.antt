use Rattle.std.proofs.Common.{◌≡◌, ◌-◌, ◌≤◌, length}
use Rattle.std.specs.Prelude.{max}
use Rattle.mp4_iterator.specs.Items.{items}
use Rattle.mp4_iterator.proofs.boxes.seek.Given as goal

abbrev pub invariant-loop-start : goal.invariant-loop-start
invariant-loop-start g l =
    let all = items g.B.StreamBox.known g.B.StreamBox.named_reading l.bytes in
    record {
      same_items : all l.fn.at ≡ all l.start;
      not_before : l.fn.at ≤ l.start;
      within_bytes : l.start ≤ max l.fn.at (length l.bytes);
      same_bytes : l.bytes ≡ l.fn.bytes;
    }

abbrev pub decreases-loop-start : goal.decreases-loop-start
decreases-loop-start g l = length l.bytes - l.start
