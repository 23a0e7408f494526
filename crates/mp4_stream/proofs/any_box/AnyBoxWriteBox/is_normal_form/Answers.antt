use Rattle.mp4_stream.specs.declared.any_box.AnyBox.TheVariants as any
use Rattle.mp4_stream.proofs.any_box.AnyBoxWriteBox.is_normal_form.Goals as goal

pub returns-in-StcoBox : goal.returns-in-StcoBox
returns-in-StcoBox c told = let (v, can, is) = c.is_normal_form.ensures told in (any.StcoBox v, can, is)

pub returns-in-Co64Box : goal.returns-in-Co64Box
returns-in-Co64Box c told = let (v, can, is) = c.is_normal_form-in-Co64Box.ensures told in (any.Co64Box v, can, is)

pub returns-in-SttsBox : goal.returns-in-SttsBox
returns-in-SttsBox c told = let (v, can, is) = c.is_normal_form-in-SttsBox.ensures told in (any.SttsBox v, can, is)

pub returns-in-CttsBox : goal.returns-in-CttsBox
returns-in-CttsBox c told = let (v, can, is) = c.is_normal_form-in-CttsBox.ensures told in (any.CttsBox v, can, is)

pub returns-in-StssBox : goal.returns-in-StssBox
returns-in-StssBox c told = let (v, can, is) = c.is_normal_form-in-StssBox.ensures told in (any.StssBox v, can, is)

pub returns-in-StszBox : goal.returns-in-StszBox
returns-in-StszBox c told = let (v, can, is) = c.is_normal_form-in-StszBox.ensures told in (any.StszBox v, can, is)
