-- The splices that are passed are beside the box.
use Rattle.std.proofs.Common.{take}
use Rattle.std.specs.Prelude.{All, IsTrue}
use Rattle.mp4_remux_files.specs.EditedFile.{is_beside}
use Rattle.mp4_remux_files.proofs.editing.is_touched.Given as goal

abbrev pub invariant-loop-splice : goal.invariant-loop-splice
invariant-loop-splice l = All (λ s. IsTrue (is_beside l.found s)) (take l.splice-index l.splices)
