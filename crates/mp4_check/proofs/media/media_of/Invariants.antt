use Rattle.std.proofs.Common.{◌≡◌, take}
use Rattle.mp4_check.specs.Media.{media_of}
use Rattle.mp4_check.proofs.media.media_of.Given as goal

abbrev pub invariant-loop-found : goal.invariant-loop-found
invariant-loop-found l = l.extents.items ≡ media_of l.length (take l.found-index l.boxes)
