use Rattle.std.specs.BTreeMap.{get}
use Rattle.std.specs.Ordering.{nat_cmp}
use Rattle.mp4_inspect_samples.proofs.Outcomes.{if_is, some_at}
use Rattle.mp4_inspect_samples.proofs.TimeLists.{time_known, time_made, time_unknown}
use Rattle.mp4_inspect_samples.proofs.track_times.enter_track.Goals as goal
use Rattle.mp4_movie.specs.Movies.{timescale, track_id}

pub returns-in_default-clause-value : goal.returns-in_default-clause-value
returns-in_default-clause-value g c =
    if_is c.args.walk.now.bytes (λ file known. λ number f same info. λ q.
    time_unknown file f (get nat_cmp c.args.times.now.by_track q) q
    (c.in_default.ensures (track_id file f.after) info.track_id_is))

pub returns-clause-value : goal.returns-clause-value
returns-clause-value g c =
    if_is c.args.walk.now.bytes (λ file known. λ number f same info. λ q.
    time_known file f c.in-Some.track c.in_ok-time.time (get nat_cmp c.args.times.now.by_track q)
    (get nat_cmp c.keep_first.new.self.by_track q) q (c.in-Some.ensures (track_id file f.after) info.track_id_is)
    (time_made file f c.args.trak.now c.in_ok-time.time
    (c.in_ok-time.ensures.timescale (timescale file f.after) info.timescale_is)
    (some_at c.args.walk.now.bytes file _ known c.in_ok-time.ensures.end) same)
    (c.in_ok-keep_first.ensures q))
