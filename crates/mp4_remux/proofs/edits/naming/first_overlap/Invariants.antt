-- If the splices that are left are in order, all are.
use Rattle.std.proofs.Common.{drop}
use Rattle.mp4_remux.specs.Splices.{AreAfter, AreInOrder}
use Rattle.mp4_remux.proofs.edits.naming.first_overlap.Given as goal

abbrev pub invariant-loop-splice : goal.invariant-loop-splice
invariant-loop-splice l =
    AreAfter l.length l.at l.depth (drop l.splice-index l.splices) → AreInOrder l.length l.splices
