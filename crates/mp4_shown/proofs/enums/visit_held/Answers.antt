use Rattle.mp4_shown.proofs.enums.visit_held.Goals as goal

pub visit_declared-requires : goal.visit_declared-requires
visit_declared-requires g c = c.requires.can_alike (rw c.requires.is at c.requires.can)

pub returns : goal.returns
returns g c = rw c.requires.is (c.requires.answers_alike _ _ c.visit_declared.ensures)
