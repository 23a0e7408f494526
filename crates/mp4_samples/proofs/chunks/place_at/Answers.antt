use Rattle.std.proofs.Common.{◌≡◌, ◌≤◌, true, drop, ap, arith}
use Rattle.mp4_samples.specs.Chunks.{chunks_increase}
use Rattle.mp4_samples.specs.declared.chunk_place.ChunkPlace.{ChunkPlace}
use Rattle.mp4_samples.proofs.Through.{at_last, before_next, begins_from, described, weaker}
use Rattle.mp4_samples.proofs.chunks.place_at.Goals as goal
use Rattle.mp4_samples.proofs.chunks.place_at.Goals.{else-place-runs-via-then-place-runs+else-runs-place}
use Rattle.mp4_samples.proofs.chunks.place_at.Goals.{else-place-runs-via-else-place-runs}

pub returns-then-runs-place-clause-entry : goal.returns-then-runs-place-clause-entry
returns-then-runs-place-clause-entry c =
    let es = c.args.runs.now in
    let next = c.next_entry.ensures in
    let p = c.next_entry.result in
    let chunk = ap (λ (p : ChunkPlace). p.chunk) next.is in
    let from = begins_from es c.args.place.run c.args.number (omega arith) c.requires.later in
    let le : c.args.number ≤ p.chunk = omega (arith, chunk, from) in
    described es p c.args.number next.at (omega (arith, chunk, c.if-runs-place.true))
    (weaker p.chunk c.args.number (drop p.run es) le next.at.later)

pub returns-else-place-runs-clause-entry : goal.returns-else-place-runs-clause-entry
returns-else-place-runs-clause-entry c =
    let es = c.args.runs.now in
    let p = c.args.place in
    let order : chunks_increase c.args.number (drop p.run es) ≡ true = elim c.else-place-runs.branch [
      | else-place-runs-via-then-place-runs+else-runs-place w
          ↦ before_next es p w.if-place-runs.true c.requires.at c.args.number w.if-runs-place.false
      | else-place-runs-via-else-place-runs w ↦ at_last es p c.args.number w.if-place-runs.false
    ] in
    described es p c.args.number c.requires.at (omega arith) order
