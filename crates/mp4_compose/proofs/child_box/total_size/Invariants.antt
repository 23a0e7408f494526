use Rattle.std.proofs.Common.{◌≡◌, ◌-◌, ◌^◌, min, take}
use Rattle.std.specs.Prelude.{sum_by}
use Rattle.mp4_compose.proofs.child_box.total_size.Given as goal

abbrev pub invariant-loop-b : goal.invariant-loop-b
invariant-loop-b g l = l.total ≡ min (sum_by g.B.Mp4Box.format.size (take l.b-index l.boxes)) (2 ^ 64 - 1)
