use Rattle.mp4_samples.proofs.FragmentOrder.{adjacent, apart}
use Rattle.mp4_samples.proofs.laws.samples_of_a_run_follow.Goals as goal

pub returns-clause-adjacent : goal.returns-clause-adjacent
returns-clause-adjacent c = adjacent

pub returns-clause-apart : goal.returns-clause-apart
returns-clause-apart c = apart
