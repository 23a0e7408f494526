use Rattle.mp4_frame.specs.BoxType.{code_of-name_of}
use Rattle.mp4_frame.proofs.box_type.code_is_kept.Goals as goal

pub returns : goal.returns
returns c = code_of-name_of c.args.code
