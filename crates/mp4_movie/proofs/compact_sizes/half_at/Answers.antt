use Rattle.std.proofs.Common.{◌∙◌, arith}
use Rattle.mp4_movie.proofs.Packed.{length-halves, even_half, odd_half}
use Rattle.mp4_movie.proofs.compact_sizes.half_at.Goals as goal

pub bounds-bytes-index : goal.bounds-bytes-index
bounds-bytes-index c = let two = length-halves c.args.bytes.now in omega (arith, two, c.requires)

pub returns-then-index-eq0 : goal.returns-then-index-eq0
returns-then-index-eq0 c = c.from.ensures ∙ even_half c.args.bytes.now c.args.index c.if-index-eq0.true

pub returns-else-index-eq0 : goal.returns-else-index-eq0
returns-else-index-eq0 c = c.from-else-index-eq0.ensures ∙ odd_half c.args.bytes.now c.args.index c.if-index-eq0.false
