-- No splice touches the boxes that are passed.
use Rattle.std.proofs.Common.{take}
use Rattle.std.specs.Prelude.{All}
use Rattle.mp4_remux_files.specs.EditedFile.{IsUntouched}
use Rattle.mp4_remux_files.proofs.editing.check_untouched.Given as goal

abbrev pub invariant-loop-index : goal.invariant-loop-index
invariant-loop-index l = All (IsUntouched l.splices) (take l.index l.boxes)
