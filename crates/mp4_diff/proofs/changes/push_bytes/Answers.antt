use Rattle.std.proofs.Common.{◌≡◌, ◌++◌, length, rules}
use Rattle.std.specs.Prelude.{◌==◌, ◌&&◌}
use Rattle.mp4_diff.proofs.BoxPairs.{bytes_known}
use Rattle.mp4_diff.specs.Differences.{compares_content, differences_of, length_of, listed_what}
use Rattle.mp4_diff.proofs.changes.push_bytes.Goals as goal

pub returns-clause-bytes : goal.returns-clause-bytes
returns-clause-bytes g c =
    let x = c.args.first.now in
    let y = c.args.second.now in
    let compares = c.are_compared-compares.result in
    let old = differences_of c.args.whats.now.items in
    let long = differences_of c.push_what.new.whats.items in
    let here = listed_what c.in_ok-what.what in
    let new = differences_of c.push_what-2.new.whats.items in
    let when : compares ≡ ((length old == 0) && compares_content c.args.offsets x y) = search rules in
    let first : long ≡ old ++ length_of x y = search rules in
    let pushed : new ≡ long ++ here = search rules in
    bytes_known c.args.one.now.bytes c.args.other.now.bytes c.args.offsets compares x y old long here new when first
    c.in_ok-what.ensures.content pushed
