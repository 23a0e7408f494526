use Rattle.mp4_shown.proofs.enums.show_held.Goals as goal

pub returns : goal.returns
returns g c = rw (c.requires.is, c.requires.alike) c.show.ensures
