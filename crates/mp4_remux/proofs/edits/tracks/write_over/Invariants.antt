-- There are as many bytes as before.
use Rattle.std.proofs.Common.{◌≡◌, length}
use Rattle.mp4_remux.proofs.edits.tracks.write_over.Given as goal

abbrev pub invariant-loop-index : goal.invariant-loop-index
invariant-loop-index l = length l.bytes.items ≡ length l.fn.bytes.items
