-- The least size of the part of an avcC with the format of samples: three bytes of bits, and a count of one byte.
use Rattle.std.proofs.Common.{ℕ, ◌+◌, ◌≤◌, arith}

pub avc_least : (m n : ℕ) → 4 ≤ 3 + ((1 + m) + n)
avc_least m n = omega arith
