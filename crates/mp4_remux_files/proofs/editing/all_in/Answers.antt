use Rattle.std.proofs.Common.{ap}
use Rattle.mp4_remux_files.proofs.WholeEdits.{all_followed}
use Rattle.mp4_remux_files.proofs.editing.all_in.Goals as goal

pub returns-clause-edited : goal.returns-clause-edited
returns-clause-edited g c =
    all_followed c.args.walk.now.bytes c.splices_in.new.walk.bytes c.args.boxes.now c.args.splices.items
    c.in_ok-tops.tops.items c.in_ok-all.all.items (ap (λ w. w.bytes) c.splices_in.ensures.walk)
    c.in_ok-tops.ensures.edited c.in_ok-all.ensures.follow
