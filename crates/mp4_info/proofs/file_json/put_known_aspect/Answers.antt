use Rattle.std.proofs.Common.{◌≡◌, rules}
use Rattle.std.specs.Prelude.{codes}
use Rattle.mp4_info.proofs.Sequences.{pair_of}
use Rattle.mp4_info.proofs.file_json.put_known_aspect.Goals as goal

pub returns : goal.returns
returns c =
    let v = c.args.aspect.now in
    let first : c.from-across.result ≡ v.h_spacing = search rules in
    let second : c.from-down.result ≡ v.v_spacing = search rules in
    pair_of c.put_pair.result c.args.sink.now.out c.put_pair.new.sink.out (codes "pixel_aspect") (codes "horizontal")
    (codes "vertical") c.from-across.result c.from-down.result v.h_spacing v.v_spacing first second c.put_pair.ensures
