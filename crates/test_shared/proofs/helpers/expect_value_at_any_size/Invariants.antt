use Rattle.std.proofs.Common.{ℕ, ◌<◌, get_or}
use Rattle.mp4_frame.specs.Reading.{reading}
use Rattle.test_shared.specs.Checks.{ReadsAs}
use Rattle.test_shared.proofs.helpers.expect_value_at_any_size.Given as goal

abbrev pub invariant-loop-size : goal.invariant-loop-size
invariant-loop-size g l = (k : ℕ) → k < l.size-index
    → ReadsAs g.B.PartialEq.eq (reading g.B.ReadBox.reads l.out.items 0 (get_or l.size-items k 0)) l.value
