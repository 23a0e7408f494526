use Rattle.std.proofs.Common.{◌≡◌, false, refl, rules}
use Rattle.mp4_inspect.proofs.PatternTexts.{no_star}
use Rattle.mp4_inspect.specs.PatternText.{is_each}
use Rattle.mp4_walk.proofs.PathTexts.{of_none}
use Rattle.mp4_inspect.proofs.pattern.step_of.Goals as goal

pub returns-in_default-path_index : goal.returns-in_default-path_index
returns-in_default-path_index c =
    let rest = c.in-Some.rest.now in
    let one : is_each c.args.each rest ≡ false = search rules in (
      refl,
      (
        c.in-Some.code.value,
        rest,
        c.in-Some.ensures.some.0,
        c.in-Some.ensures.some.1,
        of_none c.path_index.result _ c.path_index.ensures.none c.in_default-path_index.not-Some,
        no_star c.args.each rest one,
      ),
    )
