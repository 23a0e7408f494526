use Rattle.std.proofs.Common.{◌≤◌, length, min, arith, rules}
use Rattle.mp4_diff.proofs.EqualBytes.{equal_ends}
use Rattle.mp4_diff.proofs.bytes_differ.equal_bytes.Goals as goal

pub returns : goal.returns
returns c =
    let ends : min (length c.args.first.now) (length c.args.second.now) ≤ c.bytes.index = search rules in
    omega (
      arith,
      c.bytes.invariant.so_far,
      equal_ends c.bytes.index c.args.first.now c.args.second.now ends,
      c.bytes-test.false,
      c.bytes.auto.index-end,
    )
