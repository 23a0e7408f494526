-- Tables that disagree are not consistent.
use Rattle.std.proofs.Common.{◌≡◌, ℕ, zero, suc, ◌+◌, ◌<◌, ◌≤◌, ◌^◌, true, List, [], ◌∷◌, length, get_or, ltb}
use Rattle.std.proofs.Common.{slice_get, Some, refl, arith}
use Rattle.std.proofs.lemmas.Bool.{ltb-true, eqb-true, and_parts}
use Rattle.std.proofs.lemmas.List.Elements.{All-contains}
use Rattle.mp4_tables.specs.declared.stsc_entry.StscEntry.{StscEntry}
use Rattle.mp4_samples.specs.declared.disagreement.Disagreement.TheVariants.{SampleSizes, FirstChunk, ChunkOrder}
use Rattle.mp4_samples.specs.declared.disagreement.Disagreement.TheVariants.{ChunkCount, Chunks, Durations, SyncSamples}
use Rattle.mp4_samples.specs.declared.disagreement.Disagreement.TheVariants.{Offset}
use Rattle.mp4_samples.specs.Runs.{increases}
use Rattle.mp4_samples.specs.Chunks.{chunks_increase}
use Rattle.mp4_samples.specs.Sizes.{bytes_of}
use Rattle.mp4_samples.specs.Samples.{sample_count, begins_at_one, offsets_of, stss_entries}
use Rattle.mp4_samples.specs.Disagreements.{first_chunks}
use Rattle.mp4_samples.specs.Laws.{DisagreementRefutes}

not_above : (a : ℕ) (xs : List ℕ) (i : ℕ) → i < length xs → get_or xs i 0 ≤ get_or (a ∷ xs) i 0
    → increases a xs ≡ true → ⊥
not_above a [] i lt le order = omega arith
not_above a (x ∷ xs) zero lt le order =
    let both = and_parts _ _ order in
    let above : a < x = ltb-true a x both.0 in
    omega arith
not_above a (x ∷ xs) (suc i) lt le order =
    let both = and_parts _ _ order in
    not_above x xs i (omega arith) le both.1

same_order : (a : ℕ) (es : List StscEntry) → chunks_increase a es ≡ true → increases a (first_chunks es) ≡ true
same_order a [] order = refl
same_order a (e ∷ es) order =
    let both = and_parts _ _ order in
    let above : ltb a e.first_chunk ≡ true = both.0 in
    rw above (same_order e.first_chunk es both.1)

begins : (es : List StscEntry) (c : ℕ) → slice_get (first_chunks es) 0 ≡ Some c → begins_at_one es ≡ true → c ≡ 1
begins [] c is one = absurd (cc)
begins (e ∷ es) c is one =
    let same : e.first_chunk ≡ c = cc in
    let first : e.first_chunk ≡ 1 = eqb-true e.first_chunk 1 one in
    omega arith

pub refutes : DisagreementRefutes
refutes t (SampleSizes count listed) d all =
    let same = all.listed d.0 in
    d.3 (cc)
refutes t (FirstChunk c) d all = d.1 (begins t.stsc.now.entries c d.0 all.first)
refutes t (ChunkOrder i) d all =
    not_above 0 (first_chunks t.stsc.now.entries) i d.within d.order (same_order 0 t.stsc.now.entries all.increase)
refutes t (ChunkCount count) d all =
    let few = all.counted in
    omega (arith, d.0, d.1)
refutes t (Chunks count held) d all =
    let enough = all.placed in
    omega (arith, d.0, d.1, d.2)
refutes t (Durations count timed) d all =
    let enough = all.timed in
    omega (arith, d.0, d.1, d.2)
refutes t (SyncSamples i) d all = not_above 0 (stss_entries t.stss) i d.within d.order all.sync
refutes t (Offset offset bytes) d all =
    let near = All-contains (λ (o : ℕ). o + bytes_of t.stsz.now 0 (sample_count t) < 2 ^ 64)
    (offsets_of t.chunk_offsets) offset all.within d.0 in
    omega (arith, near, d.1, d.2)
