use Rattle.std.proofs.Common.{sym, ◌∙◌}
use Rattle.mp4_remux_files.proofs.WholeEdits.{tops_alone, tops_around}
use Rattle.mp4_remux_files.proofs.editing.splices_in.Goals as goal

pub returns-in-Some-first_box-clause-edited : goal.returns-in-Some-first_box-clause-edited
returns-in-Some-first_box-clause-edited g c =
    tops_around (λ v. v.items) c.args.walk.now.bytes c.args.boxes.now c.length.result c.args.splices.items
    c.in-Some-first_box.movie c.edited_around.result c.length.ensures.known
    (rw c.deref.ensures.value at c.in_ok-check_order_of.ensures)
    (rw c.deref-2.ensures.value at c.in_ok-check_untouched.ensures) (sym c.first_box.ensures ∙ c.in-Some-first_box.is)
    c.edited_around.ensures.edited

pub returns-in-None-clause-edited : goal.returns-in-None-clause-edited
returns-in-None-clause-edited g c =
    tops_alone (λ v. v.items) c.args.walk.now.bytes c.args.boxes.now c.length.result c.args.splices.items
    c.edited_alone.result c.length.ensures.known (rw c.deref.ensures.value at c.in_ok-check_order_of.ensures)
    (rw c.deref-2.ensures.value at c.in_ok-check_untouched.ensures) (sym c.first_box.ensures ∙ c.in-None.is)
    c.edited_alone.ensures.same c.edited_alone.ensures.edited
