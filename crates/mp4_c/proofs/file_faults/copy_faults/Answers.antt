use Rattle.std.proofs.Common.{inl}
use Rattle.mp4_c.proofs.file_faults.copy_faults.Goals as goal

pub returns-in-Ok : goal.returns-in-Ok
returns-in-Ok g c = inl (c.in-Ok.found, c.in-Ok.ensures, c.table_of.ensures, c.fill_faults.ensures)
