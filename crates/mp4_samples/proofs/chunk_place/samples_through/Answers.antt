use Rattle.std.proofs.Common.{◌≡◌, ◌+◌, ◌-◌, ◌*◌, true, drop, refl, ap, arith}
use Rattle.mp4_samples.specs.declared.chunk_place.ChunkPlace.{ChunkPlace}
use Rattle.mp4_samples.specs.Chunks.{chunks_increase}
use Rattle.mp4_samples.proofs.Through.{more_times, reaches, by_front, at_last, before_next}
use Rattle.mp4_samples.proofs.chunk_place.samples_through.Goals as goal
use Rattle.mp4_samples.proofs.chunk_place.samples_through.Goals.{then-loop-at-test+else-runs-at, else-loop-at-test}

pub loop-at-init : goal.loop-at-init
loop-at-init c =
    rw c.before_chunks-at.ensures (record { by = by_front c.args.runs.now c.requires; within = omega arith })

pub loop-at-preserved : goal.loop-at-preserved
loop-at-preserved c =
    let next = c.next_entry-at.ensures in
    record { by = next.at; within = omega (arith, ap (λ (p : ChunkPlace). p.chunk) next.is, c.if-runs-at.true) }

pub returns : goal.returns
returns c =
    let es = c.args.runs.now in
    let p = c.loop-at.at in
    let inv = c.loop-at.invariant in
    let product : c.from-2.result * c.from-3.result ≡ (c.args.count - p.chunk) * p.entry.samples_per_chunk =
    rw (c.from-2.ensures, c.from-3.ensures) refl in
    let order : chunks_increase c.args.count (drop p.run es) ≡ true = elim c.loop-at-test.branch [
      | then-loop-at-test+else-runs-at w
          ↦ before_next es p w.loop-at-test.true inv.by c.args.count w.if-runs-at.false
      | else-loop-at-test w ↦ at_last es p c.args.count w.loop-at-test.false
    ] in
    let all = reaches es p (c.args.count - p.chunk + 1) c.args.count inv.by (omega (arith, inv.within)) order in
    omega (arith, product, all, more_times (c.args.count - p.chunk) p.entry.samples_per_chunk, c.from.ensures)
