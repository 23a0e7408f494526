use Rattle.std.proofs.Common.{arith}
use Rattle.mp4_movie.proofs.Packed.{length-pairs, pair_of}
use Rattle.mp4_movie.proofs.compact_sizes.pair_at.Goals as goal

pub overflow_mul-index : goal.overflow_mul-index
overflow_mul-index c = let half = length-pairs c.args.bytes.now in omega (arith, half, c.requires)

pub bounds-bytes-index : goal.bounds-bytes-index
bounds-bytes-index c = let half = length-pairs c.args.bytes.now in omega (arith, half, c.requires)

pub overflow_mul-index-2 : goal.overflow_mul-index-2
overflow_mul-index-2 c = let half = length-pairs c.args.bytes.now in omega (arith, half, c.requires)

pub overflow_add-index : goal.overflow_add-index
overflow_add-index c = let half = length-pairs c.args.bytes.now in omega (arith, half, c.requires)

pub bounds-bytes-index-2 : goal.bounds-bytes-index-2
bounds-bytes-index-2 c = let half = length-pairs c.args.bytes.now in omega (arith, half, c.requires)

pub returns : goal.returns
returns c =
    let is = pair_of c.args.bytes.now c.args.index c.requires in
    omega (arith, is, c.from.ensures, c.from-2.ensures)
