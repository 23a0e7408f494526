-- The number of bytes that were read, and what is left of the limit.
use Rattle.std.proofs.Common.{◌≡◌, ℕ, ◌<◌, ◌+◌, List, length}
use Rattle.std.specs.Io.KnownBytes.{Consumes}
use Rattle.mp4_io.proofs.whole.skip_all.Given as goal

abbrev pub invariant-loop-n : goal.invariant-loop-n
invariant-loop-n g l = record {
  least : 0 < length l.buffer;
  front : (bs : List ℕ) × Consumes (g.R.Read.remaining l.initial.input.inner) (g.R.Read.remaining l.input.inner) bs
      × (length bs + l.left ≡ l.limit);
  mark : l.input.failed ≡ l.initial.input.failed;
}

abbrev pub decreases-loop-n : goal.decreases-loop-n
decreases-loop-n g l = l.left
