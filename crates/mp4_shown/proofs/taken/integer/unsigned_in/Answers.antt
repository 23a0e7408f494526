use Rattle.mp4_shown.proofs.Digits.{unsigned_is}
use Rattle.mp4_shown.proofs.taken.integer.unsigned_in.Goals as goal

pub returns : goal.returns
returns c = unsigned_is _ _ c.as_u64.ensures
