use Rattle.std.proofs.lemmas.List.Elements.{recursion_from_All}
use Rattle.mp4_frame.proofs.RoundTrip.{cut_inside}
use Rattle.mp4_frame.proofs.laws.cut_inside_a_box.Goals as goal

pub returns : goal.returns
returns g c =
    let b = g.B.Mp4Box.format in
    let m = g.met.B.WriteBox in
    let s = g.B.StreamBox in
    let t = g.met.B.StreamBox in
    λ x vs ws v k h w least most top.
    cut_inside b.name b.size b.Writable b.bytes b.normal s.known s.named_reading m.write_laws.header
    m.write_laws.normal_form t.own_name t.read_back vs (recursion_from_All b.Writable vs h) v w ws x k
    least most top
