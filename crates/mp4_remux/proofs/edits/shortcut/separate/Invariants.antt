-- The shortcuts that are passed are separated.
use Rattle.std.proofs.Common.{◌≡◌, ◌++◌, length}
use Rattle.std.specs.List.{flat_map}
use Rattle.std.specs.Vec.Iter.{into_iter_items, into_iter_len}
use Rattle.mp4_remux.specs.Shortcuts.{asked_by, other_by}
use Rattle.mp4_remux.proofs.edits.shortcut.separate.Given as goal

abbrev pub invariant-loop-shortcut : goal.invariant-loop-shortcut
invariant-loop-shortcut l = record {
  asked : l.asked.items ≡ flat_map asked_by l.yielded;
  others : l.others.items ≡ flat_map other_by l.yielded;
  left : l.fn.shortcuts.items ≡ l.yielded ++ into_iter_items l.shortcut-iterator;
  count : into_iter_len l.shortcut-iterator ≡ length (into_iter_items l.shortcut-iterator);
}
