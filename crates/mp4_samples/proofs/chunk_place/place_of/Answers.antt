use Rattle.std.proofs.Common.{◌-◌, ap, arith}
use Rattle.mp4_samples.specs.declared.chunk_place.ChunkPlace.{ChunkPlace}
use Rattle.mp4_samples.proofs.Through.{at_last, before_next}
use Rattle.mp4_samples.proofs.chunk_place.place_of.Goals as goal

pub returns-then-next-from : goal.returns-then-next-from
returns-then-next-from c =
    let inv = c.loop-at.invariant in
    let next = c.next_entry-next.ensures in
    let last = c.next_entry-next.result.chunk - 1 in
    let chunk = ap (λ (p : ChunkPlace). p.chunk) next.is in
    record {
      by = inv.at;
      last = last;
      later = before_next c.args.runs.now c.loop-at.at (omega arith) inv.at last (omega (arith, chunk, next.later));
      order = omega (arith, next.later);
      within = omega (arith, chunk, c.if-runs-at.true);
      from = inv.from;
      below = omega (arith, next.at.before, c.from.ensures, c.if-next-from.true);
    }

pub loop-at-preserved : goal.loop-at-preserved
loop-at-preserved c =
    let next = c.next_entry-next.ensures in
    let chunk = ap (λ (p : ChunkPlace). p.chunk) next.is in
    record {
      at = next.at;
      from = omega (arith, c.from.ensures, c.if-next-from.false);
      within = omega (arith, chunk, c.if-runs-at.true);
    }

pub returns-else-runs-at : goal.returns-else-runs-at
returns-else-runs-at c =
    let inv = c.loop-at.invariant in
    record {
      by = inv.at;
      last = c.args.count;
      later = before_next c.args.runs.now c.loop-at.at (omega arith) inv.at c.args.count (omega arith);
      order = inv.within;
      within = omega arith;
      from = inv.from;
      below = c.requires.held;
    }

pub returns-after-loop-at : goal.returns-after-loop-at
returns-after-loop-at c =
    let inv = c.loop-at.invariant in
    record {
      by = inv.at;
      last = c.args.count;
      later = at_last c.args.runs.now c.loop-at.at c.args.count (omega arith);
      order = inv.within;
      within = omega arith;
      from = inv.from;
      below = c.requires.held;
    }
