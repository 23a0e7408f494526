use Rattle.mp4_shown.proofs.enums.take_held.Goals as goal

pub returns : goal.returns
returns g c = rw (c.requires.is, c.requires.alike) c.take_as.ensures
