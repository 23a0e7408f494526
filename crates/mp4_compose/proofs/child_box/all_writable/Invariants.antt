use Rattle.std.proofs.Common.{take}
use Rattle.std.specs.Prelude.{All}
use Rattle.mp4_compose.proofs.child_box.all_writable.Given as goal

abbrev pub invariant-loop-b : goal.invariant-loop-b
invariant-loop-b g l = All g.B.Mp4Box.format.Writable (take l.b-index l.boxes)
