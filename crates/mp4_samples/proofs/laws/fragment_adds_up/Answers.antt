use Rattle.mp4_samples.proofs.FragmentOrder.{counts_add_up, counted, durations_add_up}
use Rattle.mp4_samples.proofs.laws.fragment_adds_up.Goals as goal

pub returns-clause-counts : goal.returns-clause-counts
returns-clause-counts c = counts_add_up

pub returns-clause-counted : goal.returns-clause-counted
returns-clause-counted c = counted

pub returns-clause-durations : goal.returns-clause-durations
returns-clause-durations c = durations_add_up
