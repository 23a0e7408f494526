use Rattle.std.proofs.Common.{[], ◌∷◌, ◌++◌, ◌∙◌, None, Result, append-nil, ap, sym}
use Rattle.std.specs.BTreeMap.{get}
use Rattle.std.specs.Ordering.{nat_cmp}
use Rattle.mp4_inspect_samples.proofs.Outcomes.{always_ok, on_ok}
use Rattle.mp4_inspect_samples.proofs.segments.enter_answer.Goals as goal
use Rattle.mp4_inspect_samples.specs.Segments.{fragments_in, time_at, time_or}
use Rattle.mp4_inspect_samples.specs.Trafs.{unknown_fault}
use Rattle.mp4_movie.specs.declared.error.BoxError.{BoxError}
use Rattle.mp4_movie.specs.declared.track_fragment.TrackFragment.{TrackFragment}

pub returns-in-Ok-clause-told : goal.returns-in-Ok-clause-told
returns-in-Ok-clause-told c =
    always_ok c.enter.result (sym (append-nil c.args.faults.now.items)
    ∙ ap (λ (r : Result TrackFragment BoxError). c.args.faults.now.items ++ unknown_fault c.args.moof None r)
    (sym c.in-Ok.is))

pub returns-in-Ok-clause-times : goal.returns-in-Ok-clause-times
returns-in-Ok-clause-times c =
    on_ok c.enter.result c.enter.ensures (λ h. λ q. h q
    ∙ ap (λ (r : Result TrackFragment BoxError).
    time_at q (time_or (get nat_cmp c.args.times.now.by_track q)) (fragments_in (r ∷ []))) (sym c.in-Ok.is))

pub returns-in-Err-clause-told : goal.returns-in-Err-clause-told
returns-in-Err-clause-told c =
    on_ok c.keep.result c.keep.ensures.items (λ h. h
    ∙ ap (λ (r : Result TrackFragment BoxError). c.args.faults.now.items ++ unknown_fault c.args.moof None r)
    (sym c.in-Err.is))

pub returns-in-Err-clause-times : goal.returns-in-Err-clause-times
returns-in-Err-clause-times c =
    always_ok c.keep.result (λ q.
    ap (λ (r : Result TrackFragment BoxError).
    time_at q (time_or (get nat_cmp c.args.times.now.by_track q)) (fragments_in (r ∷ []))) (sym c.in-Err.is))
