use Rattle.std.proofs.Common.{◌≡◌, map, take}
use Rattle.mp4_content.specs.declared.path.OpenLevel.{OpenLevel}
use Rattle.mp4_content.proofs.path.BoxPaths.path.Given as goal

abbrev pub invariant-loop-level : goal.invariant-loop-level
invariant-loop-level l =
    l.path.items ≡ map (λ (level : OpenLevel). level.last) (take l.level-index l.self.levels.items)
