-- The shortcuts that are passed drop these tracks.
use Rattle.std.proofs.Common.{◌≡◌, take}
use Rattle.std.specs.List.{flat_map}
use Rattle.mp4_remux.specs.Shortcuts.{dropped_by}
use Rattle.mp4_remux.proofs.edits.shortcut.dropped_ids.Given as goal

abbrev pub invariant-loop-shortcut : goal.invariant-loop-shortcut
invariant-loop-shortcut l = l.ids.items ≡ flat_map dropped_by (take l.shortcut-index l.shortcuts)
