use Rattle.std.specs.Prelude.{codes}
use Rattle.mp4_info.specs.Facts.{longest}
use Rattle.mp4_info.specs.FileJson.{brand_items, head_members, stated_duration}
use Rattle.mp4_info.specs.Members.{array, duration_value, flag_value, member, number_value, or_null, text_value}
use Rattle.mp4_info.specs.Members.{thousandths_value}
use Rattle.mp4_info.proofs.Sequences.{puts_7}
use Rattle.mp4_info.proofs.file_json.put_head.Goals as goal

pub returns : goal.returns
unfolding head_members
returns c =
    let f = c.args.facts.now in
    puts_7 c.args.sink.now.out c.put_text.new.sink.out c.put_number.new.sink.out c.put_brands.new.sink.out
    c.put_flag.new.sink.out c.put_order.new.sink.out c.put_seconds.new.sink.out c.put_stated.new.sink.out
    (member (codes "file") (text_value c.args.name.now)) (member (codes "size") (number_value f.length))
    (member (codes "brands") (array (brand_items f.brands)))
    (member (codes "fragmented") (flag_value f.is_fragmented))
    (member (codes "moov_first") (or_null flag_value f.movie_is_first))
    (member (codes "seconds") (thousandths_value (longest f.tracks.items)))
    (member (codes "stated_duration") (duration_value (stated_duration f.movie))) c.in_ok-put_text.ensures
    c.in_ok-put_number.ensures c.in_ok-put_brands.ensures c.in_ok-put_flag.ensures c.in_ok-put_order.ensures
    c.in_ok-put_seconds.ensures c.in_ok-put_stated.ensures
