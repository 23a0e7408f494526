use Rattle.std.proofs.Common.{◌≡◌, take}
use Rattle.mp4_content.specs.Paths.{in_fragment}
use Rattle.mp4_content.proofs.path.in_fragment.Given as goal

abbrev pub invariant-loop-code : goal.invariant-loop-code
invariant-loop-code l = l.path.items ≡ in_fragment l.moof l.traf (take l.code-index l.codes)
