-- The edits that are passed hide only boxes of these tracks.
use Rattle.std.proofs.Common.{take}
use Rattle.std.specs.Prelude.{All}
use Rattle.mp4_remux.specs.Shortcuts.{HidesDropped}
use Rattle.mp4_remux.proofs.edits.shortcut.check_hidden.Given as goal

abbrev pub invariant-loop-edit : goal.invariant-loop-edit
invariant-loop-edit l = All (HidesDropped l.ids) (take l.edit-index l.edits)
