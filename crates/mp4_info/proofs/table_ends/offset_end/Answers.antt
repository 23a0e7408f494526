use Rattle.std.proofs.Common.{arith}
use Rattle.mp4_info.proofs.table_ends.offset_end.Goals as goal

pub pass-passed-requires-clause-few : goal.pass-passed-requires-clause-few
pass-passed-requires-clause-few c =
    omega (arith, c.loop-index.invariant.few, c.loop-index.invariant.fits, c.saturating_add-count.ensures)
