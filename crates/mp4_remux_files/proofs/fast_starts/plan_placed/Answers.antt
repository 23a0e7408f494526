use Rattle.mp4_remux_files.proofs.fast_starts.plan_placed.Goals as goal

pub returns-in-Some-clause-file : goal.returns-in-Some-clause-file
returns-in-Some-clause-file g c = rw c.in-Some.is c.plan_moved.ensures.file
