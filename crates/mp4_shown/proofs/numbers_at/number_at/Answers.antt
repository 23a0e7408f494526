use Rattle.mp4_frame.proofs.Numbers.{number_at}
use Rattle.mp4_shown.proofs.numbers_at.number_at.Goals as goal

pub returns : goal.returns
returns c = rw (number_at c.args.bytes.now c.args.at c.args.width) c.read_uint.ensures
