-- The parts that are left have no numbers yet.
use Rattle.std.proofs.Common.{◌≡◌, ◌++◌, drop}
use Rattle.mp4_diff.specs.Pairs.{key_of}
use Rattle.mp4_diff.proofs.pairs.key_of.Given as goal

abbrev pub invariant-parts : goal.invariant-parts
invariant-parts l = l.key.items ++ key_of (drop l.index l.path) ≡ key_of l.path
