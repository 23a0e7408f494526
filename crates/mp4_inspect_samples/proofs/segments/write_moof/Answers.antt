use Rattle.std.proofs.Common.{ℕ, List, Result, subst}
use Rattle.std.specs.BTreeMap.{get}
use Rattle.std.specs.Io.KnownBytes.{Appends}
use Rattle.std.specs.Ordering.{nat_cmp}
use Rattle.mp4_inspect_samples.proofs.segments.write_moof.Goals as goal
use Rattle.mp4_inspect_samples.specs.SegmentText.{segment_text}
use Rattle.mp4_inspect_samples.specs.Segments.{first_of, segment_by, time_or}
use Rattle.mp4_inspect_samples.specs.declared.segment_text.Segment.{Segment}
use Rattle.mp4_movie.specs.declared.error.BoxError.{BoxError}
use Rattle.mp4_movie.specs.declared.track_fragment.TrackFragment.{TrackFragment}

pub returns-clause-row : goal.returns-clause-row
returns-clause-row g c =
    let old = g.W.Write.contents c.args.output.now.inner in
    let new = g.W.Write.contents c.write_segment.new.output.inner in
    subst (λ (n : ℕ). Appends old new (segment_text c.args.writer.now.form c.args.writer.now.follows
    (segment_by c.args.number c.args.found.now.position n c.args.rule.seconds
    (λ (q : ℕ). time_or (get nat_cmp c.args.times.now.by_track q)) (first_of c.args.moof.fragments.items))))
    c.segment_size-size.ensures
    (subst (λ (rs : List (Result TrackFragment BoxError)). Appends old new
    (segment_text c.args.writer.now.form c.args.writer.now.follows
    (segment_by c.args.number c.args.found.now.position c.segment_size-size.result c.args.rule.seconds
    (λ (q : ℕ). time_or (get nat_cmp c.args.times.now.by_track q)) (first_of rs)))) c.deref.ensures.value
    (subst (λ (s : Segment). Appends old new (segment_text c.args.writer.now.form c.args.writer.now.follows s))
    c.segment_by-row.ensures c.in_ok-write_segment.ensures.row))
