use Rattle.mp4_frame.proofs.Checks.{back_at_end}
use Rattle.mp4_frame.proofs.laws.is_read_by_name_at_the_end.Goals as goal

pub returns : goal.returns
returns g c = λ v w.
    back_at_end (g.B.StreamBox.named_reading (g.B.Mp4Box.format.name v)) (g.B.Mp4Box.format.bytes v)
    (g.B.Mp4Box.format.normal v) (g.met.B.StreamBox.read_back v w)
