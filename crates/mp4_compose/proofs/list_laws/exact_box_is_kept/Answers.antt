use Rattle.mp4_compose.specs.LosslessLaws.{exact_kept}
use Rattle.mp4_compose.proofs.list_laws.exact_box_is_kept.Goals as goal

pub returns : goal.returns
returns g c =
    let w = g.met.B.WriteBox in
    let s = g.met.B.StreamBox in
    let t = g.met.B.StableBox in
    λ name bytes start size v e.
    exact_kept g.B.StreamBox.known g.B.StreamBox.named_reading g.B.Mp4Box.format
    (record { written = w.write_laws; own_name = s.own_name; read_back = s.read_back; stable = t.stable }) t.own_code
    name bytes start size v e
