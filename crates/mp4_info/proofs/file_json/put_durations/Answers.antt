use Rattle.std.specs.Prelude.{codes}
use Rattle.mp4_info.specs.Headers.{timescale_of}
use Rattle.mp4_info.specs.Members.{duration_value, member}
use Rattle.mp4_info.specs.TrackJson.{media_duration}
use Rattle.mp4_shown_json.proofs.Puts.{puts_more}
use Rattle.mp4_info.proofs.file_json.put_durations.Goals as goal

pub returns : goal.returns
returns c =
    let t = c.args.facts.now in
    puts_more c.args.sink.now.out c.put_duration_if.new.sink.out c.put_media_duration.new.sink.out
    (member (codes "duration") (duration_value t.duration))
    (member (codes "media_duration") (duration_value (media_duration t.samples (timescale_of t.headers.media))))
    c.in_ok-put_duration_if.ensures c.in_ok-put_media_duration.ensures
