use Rattle.std.proofs.Common.{refl}
use Rattle.mp4_walk.proofs.PathTexts.{of_none}
use Rattle.mp4_walk.proofs.path.part_of.Goals as goal

pub returns-in_default-path_index : goal.returns-in_default-path_index
returns-in_default-path_index c = (
  refl,
  (
    c.in-Some.code.value,
    c.in-Some.rest.now,
    c.in-Some.ensures.some.0,
    c.in-Some.ensures.some.1,
    of_none c.path_index.result _ c.path_index.ensures.none c.in_default-path_index.not-Some,
  ),
)
