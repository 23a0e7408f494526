use Rattle.mp4_remux_files.proofs.Boxes.{movie_checked}
use Rattle.mp4_remux_files.proofs.compare.is_after.Goals as goal

pub returns : goal.returns
returns c = λ is_were is_are.
    movie_checked c.args.shift c.args.old.now c.args.new.now c.args.were.now c.args.are.now c.are_boxes_after.result
    (c.is_sized.ensures c.if-not-is_sized.false) c.are_boxes_after.ensures is_were is_are
