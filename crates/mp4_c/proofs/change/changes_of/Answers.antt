use Rattle.mp4_c.specs.Changes.{IsChange}
use Rattle.mp4_c.proofs.ChangeRows.{zip_more}
use Rattle.mp4_c.proofs.change.changes_of.Goals as goal

pub loop-index-preserved : goal.loop-index-preserved
loop-index-preserved c =
    let l = c.loop-index in
    zip_more (IsChange c.args.data.now) c.args.rows.now l.changes.items c.add_change.new.changes.items l.index _
    c.in-Ok.ensures.0 c.loop-index-test.true l.invariant c.in-Ok.ensures.1 c.in-Ok.ensures.2
