use Rattle.std.proofs.Common.{◌+◌, ◌<◌, ◌≤◌, drop, length, take, arith}
use Rattle.mp4_boxes.proofs.Taken.{passed, pulled}
use Rattle.mp4_boxes.proofs.list.pull_part.Goals as goal

pub returns-clause-end : goal.returns-clause-end
returns-clause-end g c e = c.in-Some.ensures.bytes.1 (omega (arith, e))

pub returns-clause-bytes : goal.returns-clause-bytes
returns-clause-bytes g c read has =
    let held = c.args.place.held in
    let n = c.in-Some.n in
    let P = c.args.part.now.items in
    let Q = c.pull_after.new.bytes.items in (
      take n (drop held Q),
      c.in-Some.ensures.bytes.0,
      pulled read P Q c.args.place.from held n c.in-Some.ensures.front has,
    )

pub returns-then-filled-limit-clause-passed : goal.returns-then-filled-limit-clause-passed
returns-then-filled-limit-clause-passed g c same read has =
    let from = c.args.place.from in
    let held = c.args.place.held in
    let n = c.in-Some.n in
    let P = c.args.part.now.items in
    let Q = c.pull_after.new.bytes.items in
    let within : held + n ≤ length Q = omega (arith, c.in-Some.ensures.bound, c.pull_after.new.bytes.ok.0) in
    let over : c.args.limit < from + (held + n) = omega (arith, c.if-filled-limit.true, c.requires.within) in (
      take n (drop held Q),
      c.in-Some.ensures.bytes.0,
      passed read P Q from held n c.args.limit c.in-Some.ensures.front within over has,
    )
