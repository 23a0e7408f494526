use Rattle.std.proofs.Common.{arith}
use Rattle.mp4_c.proofs.Walks.{begins_empty}
use Rattle.mp4_c.proofs.file_walk.begin.Goals as goal

pub returns-then-length-eq0 : goal.returns-then-length-eq0
returns-then-length-eq0 c =
    begins_empty c.args.length c.top_levels-levels.result (omega (arith, c.if-length-eq0.true))
