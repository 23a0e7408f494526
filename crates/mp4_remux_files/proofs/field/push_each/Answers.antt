use Rattle.std.proofs.Common.{arith}
use Rattle.mp4_remux_files.proofs.FieldLists.{each_end, each_more}
use Rattle.mp4_remux_files.proofs.field.push_each.Goals as goal

pub loop-left-preserved : goal.loop-left-preserved
loop-left-preserved g c =
    each_more (g.F.Shift.after c.args.shift.now) c.args.anchor c.args.bytes.now c.args.width c.args.stride
    c.loop-left.left c.loop-left.begin _ _ _ _ (omega (arith, c.loop-left-test.true)) c.in-Some.ensures c.in-Ok.ensures
    c.loop-left.invariant

pub returns : goal.returns
returns g c =
    each_end (g.F.Shift.after c.args.shift.now) c.args.anchor c.args.bytes.now c.args.width c.args.stride
    c.loop-left.left c.loop-left.begin _ _ (omega (arith, c.loop-left-test.false)) c.loop-left.invariant
