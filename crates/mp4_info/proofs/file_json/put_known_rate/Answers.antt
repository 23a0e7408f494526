use Rattle.std.specs.Prelude.{codes}
use Rattle.mp4_info.specs.TrackJson.{rate_members}
use Rattle.mp4_info.proofs.Sequences.{member_put}
use Rattle.mp4_info.proofs.file_json.put_known_rate.Goals as goal

pub returns : goal.returns
returns c =
    member_put c.args.sink.now.out c.key.new.self c.begin_object.new.self c.put_rate.new.sink.out c.end_object.new.self
    (codes "frame_rate") (rate_members c.args.rate)
    (c.in_ok-key.ensures.room.0, c.in_ok-key.ensures.ok)
    (c.in_ok-begin_object.ensures.room.0, c.in_ok-begin_object.ensures.ok) c.in_ok-put_rate.ensures
    (c.in_ok-end_object.ensures.room.0, c.in_ok-end_object.ensures.ok)
