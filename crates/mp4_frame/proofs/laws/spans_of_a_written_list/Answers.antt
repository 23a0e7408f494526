use Rattle.std.proofs.lemmas.List.Elements.{recursion_from_All}
use Rattle.mp4_frame.proofs.Listing.{places_listed}
use Rattle.mp4_frame.proofs.laws.spans_of_a_written_list.Goals as goal

pub returns : goal.returns
returns g c =
    let b = g.B.Mp4Box.format in
    let m = g.met.B.WriteBox in
    let s = g.B.StreamBox in
    let t = g.met.B.StreamBox in
    λ x vs w top. places_listed b s.known s.named_reading m.write_laws.header m.write_laws.normal_form t.own_name
    t.read_back vs (recursion_from_All b.Writable vs w) x top
