use Rattle.std.proofs.Common.{arith}
use Rattle.mp4_shown.specs.Numbers.{seen_number}
use Rattle.mp4_show.specs.Row.{seen_part, shown_pair}
use Rattle.mp4_show.proofs.RowSteps.{fold_one_more, fold_all}
use Rattle.mp4_show.proofs.row.put_row.Goals as goal

pub loop-i-preserved : goal.loop-i-preserved
loop-i-preserved g c =
    fold_one_more seen_number seen_part shown_pair _ _ _ _ c.args.names.now c.args.parts.now c.loop-i.i _ _
    (omega arith) (omega arith) c.loop-i.invariant c.in_ok-put_part.ensures

pub returns : goal.returns
returns g c =
    fold_all seen_number seen_part shown_pair _ _ _ c.args.names.now c.args.parts.now c.loop-i.i (omega arith)
    c.loop-i.invariant
