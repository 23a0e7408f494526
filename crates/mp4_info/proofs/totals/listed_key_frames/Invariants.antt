-- The count is that of the flags before the index, and at most the index.
use Rattle.std.proofs.Common.{◌≡◌, ◌≤◌, take}
use Rattle.std.specs.Prelude.{count_by}
use Rattle.mp4_info.specs.Totals.{is_key_frame}
use Rattle.mp4_info.proofs.totals.listed_key_frames.Given as goal

abbrev pub invariant-loop-index : goal.invariant-loop-index
invariant-loop-index l = (l.count ≡ count_by is_key_frame (take l.index l.flags)) × (l.count ≤ l.index)
