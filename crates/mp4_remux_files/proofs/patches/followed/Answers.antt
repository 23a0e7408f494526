use Rattle.std.proofs.Common.{sym, ◌∙◌}
use Rattle.mp4_remux_files.proofs.Patching.{follow_moved, follow_still}
use Rattle.mp4_remux_files.proofs.patches.followed.Goals as goal

pub returns-then-not-any_moves-clause-follow : goal.returns-then-not-any_moves-clause-follow
returns-then-not-any_moves-clause-follow g c =
    follow_still c.args.walk.now.bytes c.length.result c.args.boxes.now c.args.splices.items c.length.ensures.known
    (sym (rw c.deref.ensures.value at c.any_moves.ensures) ∙ c.if-not-any_moves.true)

pub returns-clause-follow : goal.returns-clause-follow
returns-clause-follow g c =
    follow_moved c.args.walk.now.bytes c.length.result c.args.boxes.now c.args.splices.items c.in_ok-all.all.items
    c.length.ensures.known (sym (rw c.deref.ensures.value at c.any_moves.ensures) ∙ c.if-not-any_moves.false)
    c.in_ok-all.ensures.shifted
