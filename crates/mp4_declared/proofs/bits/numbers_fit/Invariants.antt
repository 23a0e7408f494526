use Rattle.std.proofs.Common.{ℕ, ◌<◌, ◌≤◌, ◌^◌, length, slice_index}
use Rattle.mp4_declared.proofs.bits.numbers_fit.Given as goal

abbrev pub invariant-loop-k : goal.invariant-loop-k
invariant-loop-k g l =
    record {
      most : l.k ≤ length l.widths;
      each : (i : ℕ) → i < l.k
          → slice_index l.numbers i < 2 ^ slice_index l.widths i;
    }
