use Rattle.mp4_samples.proofs.FragmentOrder.{unique}
use Rattle.mp4_samples.proofs.laws.fragment_sample_is_unique.Goals as goal

pub returns : goal.returns
returns c = unique
