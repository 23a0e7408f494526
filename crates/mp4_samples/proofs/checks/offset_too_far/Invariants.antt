use Rattle.std.proofs.Common.{ℕ, ◌+◌, ◌<◌, ◌^◌, get_or}
use Rattle.mp4_samples.proofs.checks.offset_too_far.Given as goal

abbrev pub invariant-loop-offset : goal.invariant-loop-offset
invariant-loop-offset l = (k d : ℕ) → k < l.offset-index → get_or l.offset-items k d + l.total < 2 ^ 64

abbrev pub invariant-loop-offset-2 : goal.invariant-loop-offset-2
invariant-loop-offset-2 l = (k d : ℕ) → k < l.offset-index → get_or l.offset-items k d + l.total < 2 ^ 64
