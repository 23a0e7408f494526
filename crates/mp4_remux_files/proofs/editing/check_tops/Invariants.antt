-- The splices that are passed are of the top level.
use Rattle.std.proofs.Common.{take}
use Rattle.std.specs.Prelude.{All, IsTrue}
use Rattle.mp4_remux.specs.Splices.{is_top}
use Rattle.mp4_remux_files.proofs.editing.check_tops.Given as goal

abbrev pub invariant-loop-splice : goal.invariant-loop-splice
invariant-loop-splice l = All (λ s. IsTrue (is_top s)) (take l.splice-index l.splices)
