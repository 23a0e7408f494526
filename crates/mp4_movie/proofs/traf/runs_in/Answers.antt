use Rattle.std.proofs.Common.{◌∙◌, ap}
use Rattle.std.proofs.lemmas.Result.{err_from_is_err_and}
use Rattle.mp4_walk.specs.Walk.{Walk}
use Rattle.mp4_movie.specs.Levels.{Found}
use Rattle.mp4_lemmas.proofs.Outcomes.{both_known}
use Rattle.mp4_movie.proofs.Chains.{some_then}
use Rattle.mp4_movie.proofs.Trafs.{at_end, run_ends, run_on}
use Rattle.mp4_movie.proofs.traf.runs_in.Goals as goal

pub loop-place-preserved : goal.loop-place-preserved
loop-place-preserved g c =
    let f : Found = record { box = c.in-Some.place.found; after = c.in-Some.place.after.now } in
    record {
      kept = c.run_at.ensures.kept ∙ c.loop-place.invariant.kept;
      so_far = both_known _ _ (ap (λ (w : Walk). w.bytes) c.loop-place.invariant.kept) c.loop-place.invariant.so_far
          c.in_ok-run.ensures.value
          (λ file h here. run_on file c.args.boxes.now c.loop-place.rest.now f c.loop-place.runs.items _
          c.in_ok-run.run' c.in-Some.ensures.first c.in_ok-keep.ensures here h);
    }

pub returns-in_err-run-clause-value : goal.returns-in_err-run-clause-value
returns-in_err-run-clause-value g c =
    let f : Found = record { box = c.in-Some.place.found; after = c.in-Some.place.after.now } in
    let p = err_from_is_err_and c.from_residual-in_err-run.result c.from_residual-in_err-run.ensures.1 in
    rw (p.1, p.2)
    (both_known _ _ (ap (λ (w : Walk). w.bytes) c.loop-place.invariant.kept) c.loop-place.invariant.so_far
    c.in_err-run.ensures.value
    (λ file h here. run_ends file c.args.boxes.now c.loop-place.rest.now f c.loop-place.runs.items
    c.in_err-run.field-0.0 c.in-Some.ensures.first here h))

pub returns-clause-value : goal.returns-clause-value
returns-clause-value g c =
    some_then _ _ _
    (λ file h. at_end file c.args.boxes.now c.loop-place.rest.now c.loop-place.runs.items c.in_default.ensures.first h)
    c.loop-place.invariant.so_far
