use Rattle.std.proofs.Common.{◌≡◌, ◌-◌, ◌^◌, min, length, take}
use Rattle.std.specs.Prelude.{All}
use Rattle.mp4_frame.specs.Streams.{stream}
use Rattle.mp4_frame.proofs.write.writable_total.Given as goal

abbrev pub invariant-loop-b : goal.invariant-loop-b
invariant-loop-b g l = All g.B.Mp4Box.format.Writable (take l.b-index l.boxes)
    × (l.total ≡ min (length (stream g.B.Mp4Box.format.bytes (take l.b-index l.boxes))) (2 ^ 64 - 1))
