-- The list has the first `index` sizes, and room for `count`.
use Rattle.std.proofs.Common.{◌≡◌, take, vec_len, vec_capacity}
use Rattle.mp4_movie.specs.CompactSizes.{sizes_in}
use Rattle.mp4_movie.proofs.compact_sizes.sizes_in.Given as goal

abbrev pub invariant-loop-index : goal.invariant-loop-index
invariant-loop-index l = record {
  items : l.sizes.items ≡ take l.index (sizes_in l.bits l.bytes);
  len : vec_len l.sizes ≡ l.index;
  room : vec_capacity l.sizes ≡ l.count;
}
