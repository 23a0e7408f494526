-- The bytes of the sizes before, and then those of the sizes that are left.
use Rattle.std.proofs.Common.{◌≡◌, ◌*◌, ◌++◌, drop}
use Rattle.mp4_extra_samples.specs.TakenStz2.{halves}
use Rattle.mp4_extra_samples.proofs.stz2.taken.push_halves.Given as goal

abbrev pub invariant-loop-k : goal.invariant-loop-k
invariant-loop-k l =
    l.bytes.items ++ halves l.padding (drop (2 * l.k) l.sizes) ≡ l.initial.bytes.items ++ halves l.padding l.sizes
