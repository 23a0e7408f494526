use Rattle.std.proofs.Common.{◌≡◌, take}
use Rattle.mp4_check.specs.TrackTables.{firsts_of}
use Rattle.mp4_check.proofs.tables.short_offsets.Given as goal

abbrev pub invariant-loop-offset : goal.invariant-loop-offset
invariant-loop-offset l = l.chunks.items ≡ firsts_of (take l.offset-index l.offsets)
