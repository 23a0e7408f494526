-- The samples of tables that differ in the offsets of their chunks only.
use Rattle.std.proofs.Common.{◌≡◌, ℕ, zero, suc, ◌+◌, ◌-◌, ◌<◌, ◌≤◌, inl, inr, List, [], length, slice_index}
use Rattle.std.proofs.Common.{Bool, true, rules, None, Some, refl, sym, ap, ◌∙◌, subst, arith}
use Rattle.std.specs.Prelude.{slice_index_or}
use Rattle.std.specs.Option.{option_eq}
use Rattle.std.specs.Borrow.{Bor}
use Rattle.std.specs.declared.option.Option.{Option}
use Rattle.std.proofs.lemmas.Bool.{cases_lt}
use Rattle.std.proofs.lemmas.List.{get_or_default}
use Rattle.std.proofs.lemmas.List.FromFn.{get_or-map-range_with_len, length-map-range_with_len}
use Rattle.mp4_frame.specs.Equality.{IsEquality}
use Rattle.mp4_frame.proofs.Equality.{same_options}
use Rattle.mp4_movie.specs.Ends.{end_by}
use Rattle.mp4_movie.specs.Tables.{AreTablesOf, now_of}
use Rattle.mp4_movie.specs.declared.sample_boxes.SampleBoxes.{SampleBoxes}
use Rattle.mp4_movie.specs.declared.track_fragment.TrackFragment.{TrackFragment}
use Rattle.mp4_samples.specs.ChunkExtents.{chunk_at, chunks_of, samples_before}
use Rattle.mp4_samples.specs.Chunks.{IsInChunk, entry_of, samples_through}
use Rattle.mp4_samples.specs.Runs.{duration_of, is_listed, rendering_offset_of, start_of}
use Rattle.mp4_samples.specs.Samples.{AreConsistent, IsSample, ctts_entries, is_sync_in, offsets_of, sample_count}
use Rattle.mp4_samples.specs.Sizes.{bytes_of, offset_of, size_of}
use Rattle.mp4_samples.specs.declared.chunks.ChunkExtent.{ChunkExtent}
use Rattle.mp4_samples.specs.declared.sample.Sample.{Sample}
use Rattle.mp4_samples.specs.declared.tables.Tables.{Tables}
use Rattle.mp4_samples.proofs.Bytes.{bytes_next, bytes_split, through_zero}
use Rattle.mp4_tables.proofs.Equality.{ctts_equality, stsc_equality, stts_equality}
use Rattle.mp4_tables.specs.contracts.ctts.CttsBoxPartialEq.TheImpl as ctts
use Rattle.mp4_tables.specs.contracts.stsc.StscBoxPartialEq.TheImpl as stsc
use Rattle.mp4_tables.specs.contracts.stss.StssBoxPartialEq.TheImpl as stss
use Rattle.mp4_tables.specs.contracts.stsz.StszBoxPartialEq.TheImpl as stsz
use Rattle.mp4_tables.specs.contracts.stts.SttsBoxPartialEq.TheImpl as stts
use Rattle.mp4_tables.specs.declared.ctts.CttsBox.{CttsBox}
use Rattle.mp4_tables.specs.declared.ctts_entry.CttsEntry.{CttsEntry}
use Rattle.mp4_tables.specs.declared.stsc.StscBox.{StscBox}
use Rattle.mp4_tables.specs.declared.stsc_entry.StscEntry.{StscEntry}
use Rattle.mp4_tables.specs.declared.stss.StssBox.{StssBox}
use Rattle.mp4_tables.specs.declared.stsz.StszBox.{StszBox}
use Rattle.mp4_tables.specs.declared.stts.SttsBox.{SttsBox}
use Rattle.mp4_remux.specs.Carried.{CarriesSamples}
use Rattle.mp4_remux.specs.Kept.{AreAlike, KeepsSample}
use Rattle.mp4_remux.specs.KeptChunks.{CarriesChunks, CarriesFirst, HaveSameTables}
use Rattle.mp4_remux.specs.Pieces.{Carries, origin}
use Rattle.mp4_remux.specs.Told.{IsTold, count, samples_in}
use Rattle.mp4_remux.specs.declared.pieces.piece.Piece.{Piece}
use Rattle.mp4_remux.specs.declared.teller.Teller.{Teller}

stsz_equality : IsEquality (stsz.ghosts).eq
stsz_equality = search rules

stss_equality : IsEquality (stss.ghosts).eq
stss_equality = search rules

-- tables that are equal by `==`
pub same_tables : (v w : SampleBoxes) → (stsz.ghosts).eq w.stsz v.stsz ≡ true → (stsc.ghosts).eq w.stsc v.stsc ≡ true
    → (stts.ghosts).eq w.stts v.stts ≡ true → option_eq (ctts.ghosts).eq w.ctts v.ctts ≡ true
    → option_eq (stss.ghosts).eq w.stss v.stss ≡ true → HaveSameTables v w
same_tables v w sizes chunks times shifts syncs = record {
  stsz = (stsz_equality w.stsz v.stsz).0 sizes;
  stsc = (stsc_equality w.stsc v.stsc).0 chunks;
  stts = (stts_equality w.stts v.stts).0 times;
  ctts = (same_options ctts_equality w.ctts v.ctts).0 shifts;
  stss = (same_options stss_equality w.stss v.stss).0 syncs;
}

-- the chunk of a sample
pub chunk_of : (es : List StscEntry) (k n : ℕ) → k < samples_through es n
    → (c : ℕ) × (0 < c) × (c ≤ n) × IsInChunk es c k
chunk_of es k zero lt =
    let none = through_zero es in
    absurd (omega (arith, none, lt))
chunk_of es k (suc n) lt = elim (cases_lt k (samples_through es n)) [
  | inl less ↦
      let found = chunk_of es k n less in
      (found.0, found.1, omega (arith, found.2), found.3)
  | inr le ↦
      let back : suc n - 1 ≡ n = omega arith in
      let from : samples_through es (suc n - 1) ≤ k = subst (λ m. samples_through es m ≤ k) (sym back) le in
      (suc n, omega arith, omega arith, record { from = from; below = lt })
]

-- a part of bytes that come from the old file
pub part_carried : (ps : List Piece) (o n a d m : ℕ) → Carries ps o n a → d + m ≤ n → Carries ps (o + d) m (a + d)
part_carried ps o n a d m c le = λ i lt.
    let there : o + d + i ≡ o + (d + i) = omega arith in
    let here : a + (d + i) ≡ a + d + i = omega arith in
    ap (origin ps) there ∙ c (d + i) (omega (arith, le, lt)) ∙ ap (λ (x : ℕ). Some x) here

-- a chunk more
pub carries_more : (ps : List Piece) (chunks : List ChunkExtent) (offsets : List ℕ) (n : ℕ) (e : ChunkExtent) (o : ℕ)
    → n < length chunks → e ≡ slice_index_or chunks n e → o ≡ slice_index offsets n → Carries ps o e.size e.offset
    → CarriesFirst ps chunks offsets n → CarriesFirst ps chunks offsets (n + 1)
carries_more ps chunks offsets n e o lt is at here before = λ i c less it. elim (cases_lt i n) [
  | inl low ↦ before i c low it
  | inr le ↦
      let same : i ≡ n = omega (arith, less, le) in
      let one : c ≡ e = it ∙ ap (λ (j : ℕ). slice_index_or chunks j c) same ∙ get_or_default chunks n c e lt ∙ sym is in
      let carried : Carries ps (slice_index offsets n) e.size e.offset =
      subst (λ (x : ℕ). Carries ps x e.size e.offset) at here in
      subst (λ (x : ChunkExtent). Carries ps (slice_index offsets i) x.size x.offset) (sym one)
      (subst (λ (j : ℕ). Carries ps (slice_index offsets j) e.size e.offset) (sym same) carried)
]

-- a sample lies in its chunk
pub lies_in : (z : StszBox) (es : List StscEntry) (c k : ℕ) → IsInChunk es c k → k < z.sample_count
    → bytes_of z (samples_through es (c - 1)) (k - samples_through es (c - 1)) + size_of z k
    ≤ bytes_of z (samples_before z es (c - 1)) (samples_before z es c - samples_before z es (c - 1))
lies_in z es c k here lt =
    let first = samples_through es (c - 1) in
    let from = here.from in
    let below = here.below in
    let begin : samples_before z es (c - 1) ≡ first = omega (arith, from, lt) in
    let all = samples_before z es c - first in
    let end : k + 1 - first ≤ all = omega (arith, from, below, lt) in
    let next = bytes_next z first k from in
    let long = k + 1 - first in
    let more = all - long in
    let sum : long + more ≡ all = omega (arith, end) in
    let split = bytes_split z first long more in
    let whole : bytes_of z first all ≡ bytes_of z first long + bytes_of z (first + long) more = rw sum at split in
    rw begin (omega (arith, next, whole))

-- the extent of chunk c
chunk_is : (t : Tables) (c : ℕ) → 0 < c → c ≤ length (offsets_of t.chunk_offsets)
    → (e : ChunkExtent)
    → slice_index_or (chunks_of t) (c - 1) e
    ≡ chunk_at t.stsz.now t.stsc.now.entries (offsets_of t.chunk_offsets) c
chunk_is t c some le e =
    get_or-map-range_with_len (chunk_at t.stsz.now t.stsc.now.entries (offsets_of t.chunk_offsets)) 1
    (length (offsets_of t.chunk_offsets)) (c - 1) c e (omega (arith, some, le)) (omega (arith, some))

-- the entries of a `ctts`
abbrev entries_by : Option CttsBox → List CttsEntry
entries_by None = []
entries_by (Some b) = b.entries

entries_now : (o : Option (Bor CttsBox)) → ctts_entries o ≡ entries_by (now_of o)
entries_now None = refl
entries_now (Some b) = refl

-- the sync samples of an `stss`
abbrev sync_by : ℕ → Option StssBox → Bool
sync_by k None = true
sync_by k (Some b) = is_listed (k + 1) b.entries

sync_now : (o : Option (Bor StssBox)) (k : ℕ) → is_sync_in o k ≡ sync_by k (now_of o)
sync_now None k = refl
sync_now (Some b) k = refl

-- sample k of chunk c by the tables t, at its offset by these offsets of chunks
abbrev sample_at : Tables → List ℕ → ℕ → ℕ → Sample
sample_at t offsets c k =
    record {
      offset = offset_of t.stsz.now t.stsc.now.entries offsets c k;
      size = size_of t.stsz.now k;
      start_time = start_of t.stts.now.entries k;
      duration = duration_of t.stts.now.entries k;
      rendering_offset = rendering_offset_of (ctts_entries t.ctts) k;
      is_sync = is_sync_in t.stss k;
      sample_description_index = (entry_of t.stsc.now.entries c).sample_description_index;
      chunk = c;
    }

is_first : (t : Tables) (c k : ℕ) → IsInChunk t.stsc.now.entries c k
    → IsSample t k (sample_at t (offsets_of t.chunk_offsets) c k)
is_first t c k here = record {
  size = refl;
  chunk = here;
  offset = refl;
  description = refl;
  start_time = refl;
  duration = refl;
  rendering_offset = refl;
  sync = refl;
}

module _ (v w : SampleBoxes) (t u : Tables) (of_v : AreTablesOf v t) (of_w : AreTablesOf w u)
    (same : HaveSameTables v w) where
  sizes : t.stsz.now ≡ u.stsz.now
  sizes = of_v.stsz ∙ sym same.stsz ∙ sym of_w.stsz

  chunks : t.stsc.now ≡ u.stsc.now
  chunks = of_v.stsc ∙ sym same.stsc ∙ sym of_w.stsc

  times : t.stts.now ≡ u.stts.now
  times = of_v.stts ∙ sym same.stts ∙ sym of_w.stts

  shifts : ctts_entries t.ctts ≡ ctts_entries u.ctts
  shifts = entries_now t.ctts ∙ ap entries_by (of_v.ctts ∙ sym same.ctts ∙ sym of_w.ctts) ∙ sym (entries_now u.ctts)

  syncs : (k : ℕ) → is_sync_in t.stss k ≡ is_sync_in u.stss k
  syncs k = sync_now t.stss k ∙ ap (sync_by k) (of_v.stss ∙ sym same.stss ∙ sym of_w.stss) ∙ sym (sync_now u.stss k)

  is_second : (c k : ℕ) → IsInChunk t.stsc.now.entries c k
      → IsSample u k (sample_at t (offsets_of u.chunk_offsets) c k)
  is_second c k here = record {
    size = ap (λ (z : StszBox). size_of z k) sizes;
    chunk = subst (λ (b : StscBox). IsInChunk b.entries c k) chunks here;
    offset = ap (λ (z : StszBox). offset_of z t.stsc.now.entries (offsets_of u.chunk_offsets) c k) sizes
        ∙ ap (λ (b : StscBox). offset_of u.stsz.now b.entries (offsets_of u.chunk_offsets) c k) chunks;
    description = ap (λ (b : StscBox). (entry_of b.entries c).sample_description_index) chunks;
    start_time = ap (λ (b : SttsBox). start_of b.entries k) times;
    duration = ap (λ (b : SttsBox). duration_of b.entries k) times;
    rendering_offset = ap (λ (es : List CttsEntry). rendering_offset_of es k) shifts;
    sync = syncs k;
  }

  is_alike : (c k : ℕ)
      → AreAlike (sample_at t (offsets_of t.chunk_offsets) c k) (sample_at t (offsets_of u.chunk_offsets) c k)
  is_alike c k = record {
    size = refl;
    start_time = refl;
    duration = refl;
    rendering_offset = refl;
    sync = refl;
    description = refl;
  }

  module _ (ps : List Piece) (carried : CarriesChunks ps (chunks_of t) (offsets_of u.chunk_offsets)) where
    chunk_carried : (c k : ℕ) → 0 < c → c ≤ length (offsets_of t.chunk_offsets)
        → IsInChunk t.stsc.now.entries c k → k < sample_count t
        → Carries ps (offset_of t.stsz.now t.stsc.now.entries (offsets_of u.chunk_offsets) c k) (size_of t.stsz.now k)
        (offset_of t.stsz.now t.stsc.now.entries (offsets_of t.chunk_offsets) c k)
    chunk_carried c k some le here lt =
        let z = t.stsz.now in
        let es = t.stsc.now.entries in
        let first = samples_through es (c - 1) in
        let e = chunk_at z es (offsets_of t.chunk_offsets) c in
        let long = length-map-range_with_len (chunk_at z es (offsets_of t.chunk_offsets)) 1
        (length (offsets_of t.chunk_offsets)) in
        part_carried ps (slice_index (offsets_of u.chunk_offsets) (c - 1)) e.size e.offset
        (bytes_of z first (k - first)) (size_of z k)
        (carried (c - 1) e (omega (arith, some, le, long)) (sym (chunk_is t c some le e))) (lies_in z es c k here lt)

    module _ (agree : AreConsistent t) (old new : Bor (List TrackFragment)) (no_old : old.now ≡ [])
        (no_new : new.now ≡ []) where
      abbrev before : Teller
      before = record { tables = Some t; begin = end_by (Some v); fragments = old }

      abbrev after : Teller
      after = record { tables = Some u; begin = end_by (Some w); fragments = new }

      counted_before : count before ≡ sample_count t
      counted_before =
          let none : samples_in old.now ≡ 0 = rw no_old refl in
          omega (arith, none)

      counted_after : count after ≡ sample_count t
      counted_after =
          let none : samples_in new.now ≡ 0 = rw no_new refl in
          let counted : sample_count t ≡ sample_count u = ap (λ (z : StszBox). z.sample_count) sizes in
          omega (arith, none, counted)

      sample_kept : (k : ℕ) → k < sample_count t → KeepsSample IsTold count IsTold count ps before after k
      sample_kept k lt =
          let placed = agree.placed in
          let found = chunk_of t.stsc.now.entries k (length (offsets_of t.chunk_offsets)) (omega (arith, placed, lt)) in
          let c = found.0 in
          let here = found.3 in
          let counted : sample_count t ≡ sample_count u = ap (λ (z : StszBox). z.sample_count) sizes in
          record {
            before = sample_at t (offsets_of t.chunk_offsets) c k;
            after = sample_at t (offsets_of u.chunk_offsets) c k;
            is_before = inl (lt, is_first t c k here);
            is_after = inl (omega (arith, counted, lt), is_second c k here);
            carried = record {
              alike = is_alike c k;
              bytes = chunk_carried c k found.1 found.2 here lt;
            };
          }

      pub all_kept : AreConsistent u → CarriesSamples ps (Some v) (Some w) old.now new.now
      all_kept agree_too = record {
        before = before;
        after = after;
        is_before = record { are_tables = (of_v, agree); begin = refl; fragments = refl };
        is_after = record { are_tables = (of_w, agree_too); begin = refl; fragments = refl };
        keeps = record {
          counted = counted_after ∙ sym counted_before;
          each = λ k lt. sample_kept k (omega (arith, counted_before, lt));
        };
      }
