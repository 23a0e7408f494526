use Rattle.mp4_frame.proofs.Checks.{are_bytes-drop, reads_ok}
use Rattle.mp4_frame.proofs.laws.is_stable.Goals as goal

pub returns : goal.returns
returns g c = λ bytes start size v are e.
    g.met.B.BoxLaws.laws.stable _ start size v (are_bytes-drop start bytes are)
    (reads_ok g.B.ReadBox.reads bytes start size v e)
