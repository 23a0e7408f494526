use Rattle.std.proofs.Common.{ℕ, ◌<◌, get_or}
use Rattle.mp4_frame.specs.Reading.{reading}
use Rattle.test_shared.specs.Checks.{EndsIn}
use Rattle.test_shared.specs.declared.helpers.outcomes.Kind.TheVariants as kinds
use Rattle.test_shared.proofs.helpers.expect_invalid_at_small_sizes.Given as goal

abbrev pub invariant-loop-size : goal.invariant-loop-size
invariant-loop-size g l = (k : ℕ) → k < l.size-index
    → EndsIn kinds.Invalid (reading g.B.ReadBox.reads l.out.items 0 (get_or l.size-items k 0))
