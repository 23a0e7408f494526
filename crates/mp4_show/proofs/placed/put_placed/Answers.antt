use Rattle.mp4_show.proofs.Samples.{one_more}
use Rattle.mp4_show.proofs.placed.put_placed.Goals as goal

pub loop-index-preserved : goal.loop-index-preserved
loop-index-preserved g c =
    one_more _ _ _ _ (g.B.PlacedEntries.shown_at c.args.view c.args.b.now) c.loop-index.index c.loop-index.invariant
    c.in_ok-show_at.ensures
