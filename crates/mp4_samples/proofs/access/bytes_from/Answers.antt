use Rattle.std.proofs.Common.{arith}
use Rattle.mp4_samples.proofs.Bytes.{two_parts}
use Rattle.mp4_samples.proofs.access.bytes_from.Goals as goal

pub overflow_sub-result : goal.overflow_sub-result
overflow_sub-result c =
    let parts = two_parts c.args.stsz.now c.args.first c.args.end c.requires.order in
    omega (arith, parts, c.bytes_before.ensures, c.bytes_before-2.ensures)

pub returns : goal.returns
returns c =
    let parts = two_parts c.args.stsz.now c.args.first c.args.end c.requires.order in
    omega (arith, parts, c.bytes_before.ensures, c.bytes_before-2.ensures)
