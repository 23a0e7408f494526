use Rattle.mp4_frame.proofs.NormalForms.{normal_form_is_read}
use Rattle.mp4_frame.proofs.laws.normal_form_is_read.Goals as goal

pub returns : goal.returns
returns g c =
    normal_form_is_read g.B.Mp4Box.format g.B.StreamBox.known g.B.StreamBox.named_reading g.met.B.WriteBox.write_laws
    g.met.B.StreamBox.own_name g.met.B.StreamBox.read_back
