use Rattle.mp4_iterator.proofs.Collects.{collects}
use Rattle.mp4_iterator.proofs.laws.items_collect_to_boxes.Goals as goal

pub returns : goal.returns
returns g c rs d = collects g.B.StreamBox.known g.B.StreamBox.named_reading c.args.boxes.now rs d
