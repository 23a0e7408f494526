use Rattle.std.proofs.Common.{arith}
use Rattle.mp4_remux_files.proofs.FieldLists.{parts_end, parts_more}
use Rattle.mp4_remux_files.proofs.index.push_parts.Goals as goal

pub loop-left-preserved : goal.loop-left-preserved
loop-left-preserved g c =
    parts_more (g.F.Shift.after c.args.shift.now) c.args.bytes.now c.loop-left.left c.loop-left.begin _
    c.loop-left.place _ _ _ _ _ (omega (arith, c.loop-left-test.true)) c.in-Some-position_after.ensures
    c.in-Some.ensures.end c.in-Some.ensures.field c.in-Ok.ensures c.loop-left.invariant

pub returns : goal.returns
returns g c =
    parts_end (g.F.Shift.after c.args.shift.now) c.args.bytes.now c.loop-left.left c.loop-left.begin c.loop-left.place
    _ _ (omega (arith, c.loop-left-test.false)) c.loop-left.invariant
