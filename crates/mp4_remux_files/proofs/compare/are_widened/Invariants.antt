-- The offsets that are passed follow the shift.
use Rattle.std.proofs.Common.{◌≡◌, ℕ, ◌*◌, ◌<◌}
use Rattle.mp4_frame.specs.Bytes.{number}
use Rattle.mp4_remux_files.proofs.compare.are_widened.Given as goal

abbrev pub invariant-loop-index : goal.invariant-loop-index
invariant-loop-index g l =
    (i : ℕ) → i < l.index → g.F.Shift.after l.shift (number l.old (4 * i) 4) ≡ number l.new (8 * i) 8
