-- The size is that of the texts of the tracks before the current one.
use Rattle.std.proofs.Common.{◌≡◌, ◌-◌, ◌^◌, min, take}
use Rattle.mp4_c.specs.FileInfos.{text_size}
use Rattle.mp4_c.proofs.file_info.text_bytes.Given as goal

abbrev pub invariant-loop-track : goal.invariant-loop-track
invariant-loop-track l = l.size ≡ min (text_size (take l.track-index l.tracks)) (2 ^ 64 - 1)
