use Rattle.std.proofs.Common.{◌≡◌, ◌∙◌, None, rules}
use Rattle.mp4_info.proofs.Starts.{no_start}
use Rattle.mp4_info.proofs.visual.visual_level.Goals as goal

pub loop-index-preserved : goal.loop-index-preserved
loop-index-preserved c =
    let none : c.level_in.result ≡ None = search rules in
    c.loop-index.invariant
    ∙ no_start c.args.bytes.now c.loop-index.index c.level_in.result c.loop-index-test.true c.level_in.ensures none
