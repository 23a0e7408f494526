use Rattle.std.proofs.Common.{arith}
use Rattle.mp4_shown.proofs.OneMore.{fold_one_more, fold_all}
use Rattle.mp4_shown.specs.Numbers.{shown_in}
use Rattle.mp4_shown.proofs.number_name.put_numbers.Goals as goal

pub loop-i-preserved : goal.loop-i-preserved
loop-i-preserved g c =
    fold_one_more _ _ _ _ (shown_in c.args.as_items) c.args.names.now c.args.numbers.now c.loop-i.i _ (omega arith)
    (omega arith) c.loop-i.invariant c.in_ok-put_in.ensures

pub returns : goal.returns
returns g c =
    fold_all _ _ _ (shown_in c.args.as_items) c.args.names.now c.args.numbers.now c.loop-i.i (omega arith)
    c.loop-i.invariant
