use Rattle.std.proofs.Common.{get_or}
use Rattle.std.proofs.lemmas.List.{get_or_default}
use Rattle.mp4_remux.proofs.CutTracks.{if_starts, no_info}
use Rattle.mp4_remux.proofs.parts.check.start_of.Goals as goal

pub returns-in-Some-clause-value : goal.returns-in-Some-clause-value
returns-in-Some-clause-value g c =
    let t = get_or c.args.infos.now c.in_ok-video.video no_info in
    if_starts c.moment_of.result c.args.movie.now.bytes c.args.part.now c.args.infos.now c.args.groups.now
    c.in_ok-video.video c.in_ok-id.id c.in_ok-line.line t c.in-Some.place c.of_track.result.now c.in_ok-video.ensures
    (get_or_default c.args.infos.now c.in_ok-video.video no_info t c.in_ok-video.ensures.counted)
    c.in_ok-line.ensures c.in_ok-id.ensures c.of_track.ensures
    (rw (c.in-Some.is, c.nanoseconds.ensures) at c.in_ok-found.ensures.value) c.moment_of.ensures
