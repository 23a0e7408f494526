use Rattle.std.specs.Prelude.{codes}
use Rattle.mp4_info.specs.Headers.{turn}
use Rattle.mp4_info.specs.Members.{member, number_value, or_null}
use Rattle.mp4_info.specs.TrackJson.{aspect_object, picture_members, range_members, rate_object, rate_of, size_members}
use Rattle.mp4_info.proofs.Sequences.{puts_5}
use Rattle.mp4_info.proofs.file_json.put_picture.Goals as goal

pub returns : goal.returns
unfolding picture_members
returns c =
    let p = c.args.picture.now in
    let t = c.args.facts.now in
    puts_5 c.args.sink.now.out c.put_size.new.sink.out c.put_turn.new.sink.out c.put_aspect.new.sink.out
    c.put_rate_if.new.sink.out c.put_range.new.sink.out (size_members p.size)
    (member (codes "rotation") (or_null number_value (turn t.headers.track)))
    (member (codes "pixel_aspect") (or_null aspect_object p.aspect))
    (member (codes "frame_rate") (or_null rate_object (rate_of t.samples))) (range_members p)
    c.in_ok-put_size.ensures c.in_ok-put_turn.ensures c.in_ok-put_aspect.ensures c.in_ok-put_rate_if.ensures
    c.in_ok-put_range.ensures
