-- The chunks of a track that share bytes with the chunk before them. Chunks are runs of samples (ISO/IEC 14496-12,
-- 8.7.1), so that each byte belongs to one of them.
use Rattle.std.specs.Prelude.{ℕ, ◌+◌, ◌-◌, ◌^◌, min, max, Bool, nat_lt, List, [], ◌∷◌, None, Some, if◌then◌else◌}
use Rattle.std.specs.declared.option.Option.{Option}
use Rattle.mp4_check.specs.declared.overlap.Overlap.{Overlap}
use Rattle.mp4_samples.specs.declared.chunks.ChunkExtent.{ChunkExtent}

-- the larger offset is before both ends
abbrev pub shares_bytes : ChunkExtent → ChunkExtent → Bool
shares_bytes a b = nat_lt (max a.offset b.offset) (min (a.offset + a.size) (b.offset + b.size))

abbrev pub one_more : Option Overlap → ChunkExtent → ChunkExtent → ℕ → Option Overlap
one_more None a b number = Some (record { count = 1; number = number; chunk = b; before = a })
one_more (Some o) a b number = Some (record o { count = min (o.count + 1) (2 ^ 64 - 1) })

-- after one more pair of chunks, of which the second has this number
abbrev pub with_pair : Option Overlap → ChunkExtent → ChunkExtent → ℕ → Option Overlap
with_pair found a b number = if shares_bytes a b then one_more found a b number else found

-- after all pairs of adjacent chunks, of which the first has this number
abbrev pub chunks_overlap : Option Overlap → ℕ → List ChunkExtent → Option Overlap
chunks_overlap found n [] = found
chunks_overlap found n (a ∷ []) = found
chunks_overlap found n (a ∷ b ∷ cs) = chunks_overlap (with_pair found a b (n + 1)) (n + 1) (b ∷ cs)
