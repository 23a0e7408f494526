use Rattle.std.proofs.Common.{◌≡◌, List, ap, length, map, take, ◌∙◌, arith}
use Rattle.std.proofs.lemmas.List.{take_all}
use Rattle.mp4_content.specs.declared.path.OpenLevel.{OpenLevel}
use Rattle.mp4_content.proofs.OpenPaths.{same_parts}
use Rattle.mp4_content.proofs.path.BoxPaths.path.Goals as goal

pub returns : goal.returns
returns c = λ opened are.
    let levels = c.args.self.now.levels.items in
    let l = c.loop-level in
    let all : take l.level-index levels ≡ levels =
    take_all l.level-index levels (omega (
      arith,
      c.loop-level-test.false,
      c.deref-level-items.ensures.len,
      ap length c.deref-level-items.ensures.value,
    )) in
    l.invariant ∙ ap (λ (xs : List OpenLevel). map (λ (level : OpenLevel). level.last) xs) all
    ∙ same_parts opened levels are
