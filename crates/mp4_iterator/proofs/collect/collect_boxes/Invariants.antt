use Rattle.std.proofs.Common.{◌≡◌, length}
use Rattle.std.specs.Prelude.{nat_lt}
use Rattle.mp4_iterator.specs.Items.{in_order}
use Rattle.mp4_iterator.specs.Progress.{left}
use Rattle.mp4_frame.proofs.Steps.{continue_with}
use Rattle.mp4_iterator.proofs.collect.collect_boxes.Given as goal

abbrev pub invariant-loop-item : goal.invariant-loop-item
invariant-loop-item g l =
    let rest = left g.B.StreamBox.known g.B.StreamBox.named_reading in
    record {
      has_next : (goal.iterator-loop-item g).can_next l.item-iterator;
      finite : (goal.iterator-loop-item g).is_finite l.item-iterator;
      same_outcome : continue_with (nat_lt 0 (length l.list.items)) l.list.items (in_order (rest l.item-iterator))
          ≡ in_order (rest l.fn.boxes);
    }
