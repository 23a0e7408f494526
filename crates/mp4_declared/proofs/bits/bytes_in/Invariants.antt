use Rattle.std.proofs.Common.{◌≡◌, ◌+◌, ◌≤◌, length, drop}
use Rattle.mp4_declared.specs.Bits.{bits}
use Rattle.mp4_declared.proofs.bits.bytes_in.Given as goal

abbrev pub invariant-loop-k : goal.invariant-loop-k
invariant-loop-k g l =
    record { total : l.total + bits (drop l.k l.widths) ≡ bits l.widths; most : l.k ≤ length l.widths }
