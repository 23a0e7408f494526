use Rattle.std.proofs.Common.{◌≡◌, ◌∙◌, Some, ap, arith, refl}
use Rattle.mp4_inspect_samples.proofs.Outcomes.{if_is, some_at}
use Rattle.mp4_inspect_samples.proofs.RunCounts.{counted_end, counted_next, counted_start, ok_at}
use Rattle.mp4_inspect_samples.proofs.fragments.counted.Goals as goal
use Rattle.mp4_movie.specs.Levels.{Found}
use Rattle.mp4_walk.specs.Walk.{Walk}

pub runs-init : goal.runs-init
runs-init g c = record {
  kept = refl;
  small = omega arith;
  so_far = if_is c.args.walk.now.bytes (λ file known. counted_start file c.args.traf.now);
}

pub runs-preserved : goal.runs-preserved
runs-preserved g c =
    let l = c.runs in
    let f : Found = record { box = c.in-Some.place.found; after = c.in-Some.place.after.now } in
    record {
      kept = c.read_at.ensures.kept ∙ l.invariant.kept;
      small = omega (arith, c.saturating_add-samples.ensures);
      so_far = if_is c.args.walk.now.bytes (λ file known.
          let here : l.walk.bytes ≡ Some file = ap (λ (w : Walk). w.bytes) l.invariant.kept ∙ known in
          counted_next file c.args.traf.now l.rest.now f l.samples _ c.count_in.result c.in-Some.ensures.first
          (c.count_in.ensures _ (ok_at c.read_at.result c.in_ok-read.read _ c.in_ok-read.ensures.ok
          (some_at l.walk.bytes file _ here c.read_at.ensures.value)))
          (omega (arith, c.saturating_add-samples.ensures))
          (some_at c.args.walk.now.bytes file _ known l.invariant.so_far));
    }

pub returns-clause-value : goal.returns-clause-value
returns-clause-value g c =
    let l = c.runs in
    if_is c.args.walk.now.bytes (λ file known.
    counted_end file c.args.traf.now l.rest.now l.samples c.in_default.ensures.first (omega (arith, l.invariant.small))
    (some_at c.args.walk.now.bytes file _ known l.invariant.so_far))
