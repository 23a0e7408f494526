use Rattle.std.proofs.lemmas.List.Elements.{recursion_from_All}
use Rattle.mp4_frame.proofs.RoundTrip.{cut_between}
use Rattle.mp4_frame.proofs.laws.cut_at_a_border.Goals as goal

pub returns : goal.returns
returns g c =
    let b = g.B.Mp4Box.format in
    let m = g.met.B.WriteBox in
    let s = g.B.StreamBox in
    let t = g.met.B.StreamBox in
    λ x vs ws w top. cut_between b.name b.size b.Writable b.bytes b.normal s.known s.named_reading m.write_laws.header
    m.write_laws.normal_form t.own_name t.read_back vs (recursion_from_All b.Writable vs w) ws x top
