use Rattle.std.proofs.Common.{◌≤◌, ◌∙◌, length, min, rules, sym}
use Rattle.mp4_diff.proofs.PairSteps.{rising_ends}
use Rattle.mp4_diff.proofs.pairs.is_rising.Goals as goal

pub returns : goal.returns
returns c =
    let ends : min (length c.args.boxes.now) (length c.args.partners.now) ≤ c.boxes.index = search rules in
    sym (rising_ends c.args.boxes.now c.args.partners.now c.args.depth c.boxes.least c.boxes.index ends)
    ∙ c.boxes.invariant
