use Rattle.mp4_extra_sound.proofs.esds.taken.take_parts.Goals as goal

pub returns : goal.returns
returns c = rw c.context.ensures at c.take.ensures
