use Rattle.std.proofs.Common.{◌≡◌, fold, map, take}
use Rattle.mp4_check.specs.Outside.{chunk_place, counted, none_yet}
use Rattle.mp4_check.proofs.outside.chunks_outside.Given as goal

abbrev pub invariant-loop-chunk : goal.invariant-loop-chunk
invariant-loop-chunk l =
    l.tally
    ≡ fold counted none_yet (map (chunk_place l.media.extents.items l.media.length) (take l.chunk-index l.chunks))
