use Rattle.std.specs.Prelude.{codes}
use Rattle.mp4_info.specs.Codecs.{colours_of}
use Rattle.mp4_info.specs.Members.{member, or_null, text_value}
use Rattle.mp4_info.specs.TrackJson.{colours_object, light_object, mastering_object, range_members, range_of}
use Rattle.mp4_info.proofs.Sequences.{puts_4}
use Rattle.mp4_info.proofs.file_json.put_range.Goals as goal

pub returns : goal.returns
unfolding range_members
returns c =
    let p = c.args.picture.now in
    puts_4 c.args.sink.now.out c.put_colours.new.sink.out c.put_dynamic_range.new.sink.out c.put_mastering.new.sink.out
    c.put_light.new.sink.out (member (codes "colours") (or_null colours_object (colours_of p.colours)))
    (member (codes "dynamic_range") (or_null text_value (range_of (colours_of p.colours))))
    (member (codes "mastering") (or_null mastering_object p.mastering))
    (member (codes "light") (or_null light_object p.light)) c.in_ok-put_colours.ensures
    c.in_ok-put_dynamic_range.ensures c.in_ok-put_mastering.ensures c.in_ok-put_light.ensures
