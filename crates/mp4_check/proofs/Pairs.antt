-- Pairs of adjacent chunks, one after the other.
use Rattle.std.proofs.Common.{◌≡◌, ℕ, ◌+◌, ◌-◌, ◌<◌, ◌≤◌, List, [], ◌∷◌, length, get_or, drop, refl, arith}
use Rattle.std.proofs.lemmas.List.{drop_more, length-drop}
use Rattle.std.specs.declared.option.Option.{Option}
use Rattle.mp4_check.specs.Overlap.{chunks_overlap, with_pair}
use Rattle.mp4_check.specs.declared.overlap.Overlap.{Overlap}
use Rattle.mp4_samples.specs.declared.chunks.ChunkExtent.{ChunkExtent}

pub pair_next : (found : Option Overlap) (chunks : List ChunkExtent) (i : ℕ) (d : ChunkExtent) → 0 < i
    → i < length chunks
    → chunks_overlap found i (drop (i - 1) chunks)
    ≡ chunks_overlap (with_pair found (get_or chunks (i - 1) d) (get_or chunks i d) (i + 1)) (i + 1) (drop i chunks)
pair_next found chunks i d some lt =
    let back : i - 1 + 1 ≡ i = omega arith in
    let first : drop (i - 1) chunks ≡ get_or chunks (i - 1) d ∷ drop i chunks =
    rw back at (drop_more chunks (i - 1) d (omega arith)) in
    rw (first, drop_more chunks i d lt) refl

short : (found : Option Overlap) (n : ℕ) (chunks : List ChunkExtent) → length chunks ≤ 1
    → chunks_overlap found n chunks ≡ found
short found n [] le = refl
short found n (a ∷ []) le = refl
short found n (a ∷ b ∷ cs) le = absurd (omega arith)

pub pairs_end : (found : Option Overlap) (chunks : List ChunkExtent) (i n : ℕ) → length chunks ≤ i
    → chunks_overlap found n (drop (i - 1) chunks) ≡ found
pairs_end found chunks i n le =
    short found n (drop (i - 1) chunks) (omega (arith, length-drop (i - 1) chunks))
