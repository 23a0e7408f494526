use Rattle.std.proofs.Common.{◌≡◌, ◌++◌, take}
use Rattle.mp4_extra_samples.proofs.stz2.taken.push_bytes.Given as goal

abbrev pub invariant-loop-size : goal.invariant-loop-size
invariant-loop-size l = l.bytes.items ≡ l.initial.bytes.items ++ take l.size-index l.sizes
