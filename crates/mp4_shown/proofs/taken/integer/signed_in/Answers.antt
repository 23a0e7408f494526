use Rattle.mp4_shown.proofs.Digits.{signed_is}
use Rattle.mp4_shown.proofs.taken.integer.signed_in.Goals as goal

pub returns : goal.returns
returns c = signed_is _ _ c.as_i64.ensures
