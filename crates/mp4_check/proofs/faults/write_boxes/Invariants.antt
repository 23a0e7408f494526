-- The faults of the boxes before the current one are written, and these boxes are entered.
use Rattle.std.proofs.Common.{◌≡◌, [], drop, fold, take}
use Rattle.std.specs.Prelude.{IfSome}
use Rattle.mp4_check.specs.BoxFaults.{faults_of_boxes}
use Rattle.mp4_content.specs.Paths.{AreOpen, entered}
use Rattle.mp4_check.proofs.ShownFaults.{WritesFirst}
use Rattle.mp4_check.proofs.faults.write_boxes.Given as goal

abbrev pub invariant-boxes : goal.invariant-boxes
invariant-boxes g l = record {
  kept : l.walk ≡ l.fn.walk;
  opened : AreOpen (fold entered [] (take l.index l.boxes)) l.paths.levels.items;
  so_far : IfSome l.fn.walk.bytes (λ file.
      WritesFirst (g.F.FaultForm.writes l.form) l.fn.told
      (faults_of_boxes g.B.Shown.known g.B.Shown.named_reading file [] l.boxes)
      (faults_of_boxes g.B.Shown.known g.B.Shown.named_reading file (take l.index l.boxes) (drop l.index l.boxes))
      l.fn.output l.output l.written);
}
