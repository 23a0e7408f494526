-- The boxes of the level that are passed are whole.
use Rattle.std.proofs.Common.{◌≡◌, drop}
use Rattle.mp4_remux.specs.Edits.{after_last, level_of}
use Rattle.mp4_remux.proofs.edits.inserting.after_last.Given as goal

abbrev pub invariant-loop-found : goal.invariant-loop-found
invariant-loop-found l =
    after_last (level_of l.parent (drop l.found-index l.boxes)) l.end ≡ after_last (level_of l.parent l.boxes) l.end
