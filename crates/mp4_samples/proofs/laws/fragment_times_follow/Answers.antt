use Rattle.mp4_samples.proofs.FragmentOrder.{follow, in_order, begins}
use Rattle.mp4_samples.proofs.laws.fragment_times_follow.Goals as goal

pub returns-clause-next : goal.returns-clause-next
returns-clause-next c = follow

pub returns-clause-order : goal.returns-clause-order
returns-clause-order c = in_order

pub returns-clause-first : goal.returns-clause-first
returns-clause-first c = begins
