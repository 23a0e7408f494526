use Rattle.std.proofs.Common.{◌/◌, arith}
use Rattle.mp4_samples.proofs.BlockSums.{by_block, before_fits}
use Rattle.mp4_samples.proofs.access.bytes_before.Goals as goal

pub overflow_add-result : goal.overflow_add-result
overflow_add-result c =
    let z = c.args.stsz.now in
    let k = c.args.number in
    let all = by_block z k in
    let fits = before_fits z k c.requires.within c.requires.fits in
    let mark = c.requires.marks.is (k / 64) (omega (arith, c.requires.marks.each c.requires.some)) in
    omega (arith, all, fits, mark, c.bytes_between.ensures)

pub returns : goal.returns
returns c =
    let z = c.args.stsz.now in
    let k = c.args.number in
    let all = by_block z k in
    let mark = c.requires.marks.is (k / 64) (omega (arith, c.requires.marks.each c.requires.some)) in
    omega (arith, all, mark, c.bytes_between.ensures)
