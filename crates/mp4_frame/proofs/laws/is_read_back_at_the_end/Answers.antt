use Rattle.mp4_frame.specs.Reading.{reading}
use Rattle.mp4_frame.proofs.Checks.{reads_back, back_at_end}
use Rattle.mp4_frame.proofs.laws.is_read_back_at_the_end.Goals as goal

pub returns : goal.returns
returns g c = λ v w.
    back_at_end (reading g.B.ReadBox.reads) (g.B.Mp4Box.format.bytes v) (g.B.Mp4Box.format.normal v)
    (reads_back g.B.ReadBox.reads (g.B.Mp4Box.format.bytes v) (g.B.Mp4Box.format.size v) (g.B.Mp4Box.format.normal v)
    (g.met.B.WriteBox.write_laws.header v w).long (g.met.B.BoxLaws.laws.read_back v w))
