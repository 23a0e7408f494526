use Rattle.mp4_frame.specs.Reading.{reading}
use Rattle.mp4_frame.proofs.NoMemory.{answers_without_memory, reading_takes_none}
use Rattle.mp4_frame.proofs.laws.is_read_without_memory.Goals as goal

pub returns : goal.returns
returns g c = λ bytes start size result is.
    answers_without_memory (reading g.B.ReadBox.reads bytes start size)
    (reading_takes_none g.B.ReadBox.reads g.met.B.ReadsWithoutMemory.takes_none bytes start size) result is
