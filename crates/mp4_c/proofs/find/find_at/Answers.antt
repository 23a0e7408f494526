use Rattle.std.proofs.Common.{inl}
use Rattle.mp4_c.proofs.find.find_at.Goals as goal

pub returns-in-Ok : goal.returns-in-Ok
returns-in-Ok c = inl (rw c.in-Ok.ensures at c.fill_found.ensures)
