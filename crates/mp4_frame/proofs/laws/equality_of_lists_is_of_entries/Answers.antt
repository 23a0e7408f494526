use lib.Pointwise.{pointwise_decides}
use Rattle.mp4_frame.proofs.laws.equality_of_lists_is_of_entries.Goals as goal

pub returns : goal.returns
returns g c = λ is. pointwise_decides is
