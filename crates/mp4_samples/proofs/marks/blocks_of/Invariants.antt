use Rattle.std.proofs.Common.{◌≡◌, ℕ, ◌+◌, ◌*◌, ◌/◌, ◌<◌, length, vec_len, vec_capacity, get_or}
use Rattle.mp4_samples.specs.Sizes.{bytes_of}
use Rattle.mp4_samples.proofs.marks.blocks_of.Given as goal

abbrev pub invariant-loop-block : goal.invariant-loop-block
invariant-loop-block l = record {
  long : vec_len l.bytes ≡ l.block;
  items : length l.bytes.items ≡ l.block;
  room : vec_capacity l.bytes ≡ l.stsz.sample_count / 64 + 1;
  total : l.total ≡ bytes_of l.stsz 0 (l.block * 64);
  is : (i : ℕ) → i < l.block → get_or l.bytes.items i 0 ≡ bytes_of l.stsz 0 (i * 64);
}
