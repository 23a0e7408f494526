-- The last bytes of a number of 64 bits.
use Rattle.std.proofs.Common.{◌≡◌, ℕ, ◌-◌, ◌≤◌, drop, take}
use Rattle.std.specs.Int.{to_be_bytes, w64}
use Rattle.byteorder.proofs.Bytes.{between-bytes_high_first}
use Rattle.mp4_frame.specs.Bytes.{be_bytes}

pub last_bytes : (w n : ℕ) → w ≤ 8 → take (8 - (8 - w)) (drop (8 - w) (to_be_bytes w64 n)) ≡ be_bytes w n
unfolding be_bytes
last_bytes w n few = between-bytes_high_first 8 w n few
