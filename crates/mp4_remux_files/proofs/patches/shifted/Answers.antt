use Rattle.std.proofs.Common.{ap}
use Rattle.mp4_remux_files.proofs.Patching.{shifted_in}
use Rattle.mp4_remux_files.proofs.patches.shifted.Goals as goal

pub returns-clause-shifted : goal.returns-clause-shifted
returns-clause-shifted g c =
    shifted_in c.args.walk.now.bytes c.patches_of.new.walk.bytes c.length.result c.args.boxes.now c.args.splices.items
    c.in_ok-patches.patches.items c.in_ok-all.all.items (ap (λ w. w.bytes) c.patches_of.ensures.walk)
    (rw c.deref.ensures.value at c.in_ok-patches.ensures.patched) c.in_ok-all.ensures c.length.ensures.known
    (rw c.deref-2.ensures.value at c.in_ok-check_order_of.ensures)
