-- The overlaps that are left to find begin at the chunk before the current one.
use Rattle.std.proofs.Common.{◌≡◌, ◌-◌, drop, None}
use Rattle.mp4_check.specs.Overlap.{chunks_overlap}
use Rattle.mp4_check.proofs.overlap.chunks_overlap.Given as goal

abbrev pub invariant-loop-index : goal.invariant-loop-index
invariant-loop-index l =
    chunks_overlap None 1 l.chunks ≡ chunks_overlap l.found l.index (drop (l.index - 1) l.chunks)
