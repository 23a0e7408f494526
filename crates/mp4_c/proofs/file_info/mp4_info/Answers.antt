use Rattle.std.proofs.Common.{inl}
use Rattle.mp4_c.proofs.file_info.mp4_info.Goals as goal

pub returns-in-Ok : goal.returns-in-Ok
returns-in-Ok c = inl (c.in-Ok.facts, c.in-Ok.ensures.value, c.file_info.ensures, c.fill_info.ensures)
