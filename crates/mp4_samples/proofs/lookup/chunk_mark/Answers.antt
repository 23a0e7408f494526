use Rattle.std.proofs.Common.{◌≡◌, ◌+◌, ◌-◌, ◌<◌, length, arith}
use Rattle.mp4_samples.proofs.Through.{by_front}
use Rattle.mp4_samples.proofs.lookup.chunk_mark.Goals as goal

pub returns-then-marked-eq0 : goal.returns-then-marked-eq0
returns-then-marked-eq0 c =
    rw c.before_chunks.ensures
    (record { at = by_front c.args.runs.now c.requires.increase; from = omega arith; within = omega arith })

pub returns : goal.returns
returns c =
    let n = c.long_count_at_most-marked.result in
    let at = rw c.from.ensures at c.long_count_at_most-marked.ensures in
    let inside : n - 1 < length c.args.befores.now = omega (arith, at.within) in
    let here : n - 1 + 1 ≡ n = omega arith in
    record {
      at = rw here at (c.requires.marks.is (n - 1) inside);
      from = at.low (n - 1) (omega arith);
      within = c.requires.marks.begun (n - 1) inside;
    }
