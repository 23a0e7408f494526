use Rattle.std.proofs.Common.{◌≡◌, rules}
use Rattle.std.specs.Prelude.{codes}
use Rattle.mp4_info.proofs.Sequences.{pair_of}
use Rattle.mp4_info.proofs.file_json.put_known_mastering.Goals as goal

pub returns : goal.returns
returns c =
    let v = c.args.mastering.now in
    let first : c.from-most.result ≡ v.max_display_mastering_luminance = search rules in
    let second : c.from-least.result ≡ v.min_display_mastering_luminance = search rules in
    pair_of c.put_pair.result c.args.sink.now.out c.put_pair.new.sink.out (codes "mastering") (codes "max_luminance")
    (codes "min_luminance") c.from-most.result c.from-least.result v.max_display_mastering_luminance
    v.min_display_mastering_luminance first second c.put_pair.ensures
