use Rattle.mp4_frame.specs.BoxType.{name_of-code_of}
use Rattle.mp4_frame.proofs.box_type.name_is_kept.Goals as goal

pub returns : goal.returns
returns c = name_of-code_of
