use Rattle.std.proofs.Common.{◌≡◌, ◌<◌, ℕ, length, rules, subst, sym}
use Rattle.std.specs.BTreeMap.{get}
use Rattle.std.specs.Ordering.{nat_cmp}
use Rattle.std.specs.declared.option.Option.{Option}
use Rattle.mp4_inspect_samples.proofs.SegmentLists.{err_first, none_first}
use Rattle.mp4_inspect_samples.proofs.segments.segment_by.Goals as goal
use Rattle.mp4_inspect_samples.specs.Segments.{segment_by, time_or}
use Rattle.mp4_movie.specs.declared.track_fragment.TrackFragment.{TrackFragment}

pub returns-then-is_empty : goal.returns-then-is_empty
returns-then-is_empty c =
    let none : length c.args.answers.now ≡ 0 = search rules in
    subst (λ (o : Option TrackFragment). c.unknown_segment.result
    ≡ segment_by c.args.number c.args.offset c.args.size c.args.seconds
    (λ (q : ℕ). time_or (get nat_cmp c.args.times.now.by_track q)) o) (sym (none_first c.args.answers.now none))
    (c.unknown_segment.ensures (λ (q : ℕ). time_or (get nat_cmp c.args.times.now.by_track q)))

pub returns-in-Err : goal.returns-in-Err
returns-in-Err c =
    let some : 0 < length c.args.answers.now = search rules in
    subst (λ (o : Option TrackFragment). c.unknown_segment-in-Err.result
    ≡ segment_by c.args.number c.args.offset c.args.size c.args.seconds
    (λ (q : ℕ). time_or (get nat_cmp c.args.times.now.by_track q)) o)
    (sym (err_first c.args.answers.now c.index-answers-0.result c.in-Err.field-0 some c.index-answers-0.is c.in-Err.is))
    (c.unknown_segment-in-Err.ensures (λ (q : ℕ). time_or (get nat_cmp c.args.times.now.by_track q)))
