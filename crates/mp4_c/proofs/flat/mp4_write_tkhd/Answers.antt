use Rattle.mp4_c.proofs.flat.mp4_write_tkhd.Goals as goal

pub returns : goal.returns
returns c = rw c.tkhd_of.ensures at c.put_box.ensures
