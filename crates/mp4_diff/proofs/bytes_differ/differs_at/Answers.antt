use Rattle.std.proofs.Common.{◌≡◌, ◌<◌, ◌^◌, min, rules}
use Rattle.mp4_diff.proofs.EqualBytes.{differs_known}
use Rattle.mp4_diff.proofs.bytes_differ.differs_at.Goals as goal

pub returns-clause-at : goal.returns-clause-at
returns-clause-at g c =
    let left = c.place_of-left.result in
    let right = c.place_of-right.result in
    let here = c.present-here.result in
    let there = c.present-there.result in
    let short : c.length.result < 2 ^ 64 = search rules in
    let less : c.length-2.result < 2 ^ 64 = search rules in
    let least : c.min.result ≡ min here there = search rules in
    differs_known c.args.one.now.bytes c.args.other.now.bytes c.args.content c.args.first.now c.args.second.now left
    right c.length.result c.length-2.result here there c.min.result c.in_ok-equal.equal c.differs_after.result short
    less c.length.ensures.known c.length-2.ensures.known c.place_of-left.ensures c.place_of-right.ensures
    c.present-here.ensures.count c.present-there.ensures.count least c.in_ok-equal.ensures.equal
    c.differs_after.ensures
