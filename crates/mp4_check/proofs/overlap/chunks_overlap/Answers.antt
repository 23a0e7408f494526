use Rattle.std.proofs.Common.{◌∙◌, sym, arith}
use Rattle.mp4_check.proofs.Pairs.{pairs_end}
use Rattle.mp4_check.proofs.overlap.chunks_overlap.Goals as goal

pub returns : goal.returns
returns c =
    let l = c.loop-index in
    sym (l.invariant ∙ pairs_end l.found c.args.chunks.now l.index l.index (omega arith))
