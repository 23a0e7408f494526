use Rattle.mp4_frame.specs.OptionalChild.{WritableOptional}
use Rattle.mp4_sound.specs.Stsd.{format_entry, entry_stsd}
use Rattle.mp4_sound.proofs.stsd.StsdBoxWriteBox.put_box.Goals as goal

pub put_entry-requires-in-Some-hev1-clause-writable : goal.put_entry-requires-in-Some-hev1-clause-writable
put_entry-requires-in-Some-hev1-clause-writable c = rw (c.in_default.is, c.in-Some-hev1.is) at c.requires.writable.child
