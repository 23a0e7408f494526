-- The codes before the index are written.
use Rattle.std.proofs.Common.{◌≡◌, map, take}
use Rattle.mp4_frame.specs.FourCC.{number_of}
use Rattle.mp4_c.proofs.file_info.put_codes.Given as goal

abbrev pub invariant-loop-index : goal.invariant-loop-index
invariant-loop-index l = take l.index l.out ≡ map number_of (take l.index l.codes)
