use Rattle.mp4_remux_files.proofs.WholeEdits.{alone_in}
use Rattle.mp4_remux_files.proofs.editing.edited_alone.Goals as goal

pub returns-in-Ok-check_all-clause-edited : goal.returns-in-Ok-check_all-clause-edited
returns-in-Ok-check_all-clause-edited g c =
    alone_in c.args.walk.now.bytes c.args.boxes.now c.args.splices.items (rw c.deref.ensures.value at c.in-Ok.ensures)
    (rw c.deref-2.ensures.value at c.in-Ok-check_all.ensures.order)
    (rw c.deref-2.ensures.value at c.in-Ok-check_all.ensures.steady)
