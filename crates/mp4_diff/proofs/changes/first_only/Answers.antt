use Rattle.mp4_diff.proofs.changes.first_only.Goals as goal

pub returns : goal.returns
returns c = λ boxes are. rw c.in_ok-whats.ensures.ok at (c.only_of.ensures boxes are)
