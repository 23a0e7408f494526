use Rattle.std.proofs.Common.{◌∙◌, arith}
use Rattle.mp4_remux.proofs.Beginnings.{block_more, block_failed}
use Rattle.mp4_remux.proofs.pieces.write.copy_range.Goals as goal

pub loop-at-preserved : goal.loop-at-preserved
loop-at-preserved g c =
    let inv = c.loop-at.invariant in
    record {
      after = omega arith;
      within = omega arith;
      keeps = c.copy_front.ensures.keeps ∙ inv.keeps;
      front = block_more (g.S.Source.all c.args.source.now) (g.S.Source.all c.loop-at.source)
          (g.W.Write.contents c.args.output.now.inner) (g.W.Write.contents c.loop-at.output.inner)
          (g.W.Write.contents c.copy_front.new.output.inner) c.args.begin c.loop-at.at c.min-long.result
          c.copy_front.result c.in-Ok.field-0 c.in-Ok.is inv.keeps inv.after inv.front
          c.copy_front.ensures.bytes;
    }

pub returns-in-Err-clause-bytes : goal.returns-in-Err-clause-bytes
returns-in-Err-clause-bytes g c =
    let inv = c.loop-at.invariant in
    block_failed (g.S.Source.all c.args.source.now) (g.S.Source.all c.loop-at.source)
    (g.W.Write.contents c.args.output.now.inner) (g.W.Write.contents c.loop-at.output.inner)
    (g.W.Write.contents c.copy_front.new.output.inner) c.args.begin c.loop-at.at c.min-long.result c.args.end
    c.copy_front.result c.in-Err.failure c.in-Err.is inv.keeps inv.after (omega arith) inv.front
    c.copy_front.ensures.bytes
