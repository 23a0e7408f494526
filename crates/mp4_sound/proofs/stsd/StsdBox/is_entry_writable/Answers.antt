use Rattle.mp4_sound.proofs.stsd.StsdBox.is_entry_writable.Goals as goal

pub returns-in-Some-hev1 : goal.returns-in-Some-hev1
returns-in-Some-hev1 c = rw (c.in_default.is, c.in-Some-hev1.is) c.is_writable-in-Some-hev1.ensures
