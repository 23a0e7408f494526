use Rattle.std.proofs.Common.{◌-◌, length}
use Rattle.mp4_compose.specs.Kept.{AreKept}
use Rattle.mp4_compose.proofs.child_box.have_short_headers.Given as goal

abbrev pub invariant-loop-at : goal.invariant-loop-at
invariant-loop-at g l =
    AreKept g.B.StreamBox.known g.B.StreamBox.named_reading g.B.Mp4Box.format l.content l.at
    → AreKept g.B.StreamBox.known g.B.StreamBox.named_reading g.B.Mp4Box.format l.content l.fn.start

abbrev pub decreases-loop-at : goal.decreases-loop-at
decreases-loop-at g l = length l.content - l.at
