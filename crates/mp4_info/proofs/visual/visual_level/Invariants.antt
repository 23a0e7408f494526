-- No start code is before the index.
use Rattle.std.proofs.Common.{◌≡◌, drop}
use Rattle.mp4_info.specs.Visual.{visual_level}
use Rattle.mp4_info.proofs.visual.visual_level.Given as goal

abbrev pub invariant-loop-index : goal.invariant-loop-index
invariant-loop-index l = visual_level l.bytes ≡ visual_level (drop l.index l.bytes)
