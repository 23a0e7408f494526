use Rattle.std.proofs.Common.{◌≡◌, rules}
use Rattle.std.specs.Prelude.{codes}
use Rattle.mp4_info.proofs.Sequences.{pair_of}
use Rattle.mp4_info.proofs.file_json.put_known_light.Goals as goal

pub returns : goal.returns
returns c =
    let v = c.args.light.now in
    let first : c.from-most.result ≡ v.max_content_light_level = search rules in
    let second : c.from-average.result ≡ v.max_pic_average_light_level = search rules in
    pair_of c.put_pair.result c.args.sink.now.out c.put_pair.new.sink.out (codes "light") (codes "max_content")
    (codes "max_average") c.from-most.result c.from-average.result v.max_content_light_level
    v.max_pic_average_light_level first second c.put_pair.ensures
