use Rattle.std.proofs.Common.{◌≡◌, take}
use Rattle.mp4_content.specs.Paths.{in_track}
use Rattle.mp4_content.proofs.path.in_track.Given as goal

abbrev pub invariant-loop-code : goal.invariant-loop-code
invariant-loop-code l = l.path.items ≡ in_track l.number (take l.code-index l.codes)
