use Rattle.mp4_compose.specs.ChildBox.{child_of}
use Rattle.mp4_compose.specs.LosslessLaws.{keeps_lossless}
use Rattle.mp4_compose.proofs.lossless.LosslessChildBox.are_kept_in.Goals as goal

pub have_short_headers-requires : goal.have_short_headers-requires
have_short_headers-requires g c =
    let s = g.met.B.StreamBox in
    let t = g.met.B.StableBox in
    keeps_lossless g.B.StreamBox.known g.B.StreamBox.named_reading g.B.Mp4Box.format
    (child_of g.met.B.WriteBox.write_laws s.own_name s.read_back t.stable) t.own_code
