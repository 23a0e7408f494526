use Rattle.mp4_extra_pictures.proofs.av1c.taken.take_config.Goals as goal

pub returns : goal.returns
returns c = rw c.delay_is_present-is_present.ensures at c.take_named_by.ensures
