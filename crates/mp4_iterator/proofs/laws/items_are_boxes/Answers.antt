use Rattle.mp4_iterator.proofs.Items.{boxes_are_items}
use Rattle.mp4_iterator.proofs.laws.items_are_boxes.Goals as goal

pub returns : goal.returns
returns g c = boxes_are_items g.B.StreamBox.known g.B.StreamBox.named_reading
