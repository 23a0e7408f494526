-- The test whether tables agree is the agreement that `mp4_samples` checks.
use Rattle.std.proofs.Common.{◌≡◌, ℕ, ◌+◌, ◌<◌, ◌^◌, Bool, true, false, List, length, map, None, Some, refl, sym, ap}
use Rattle.std.proofs.Common.{◌∙◌, arith, get_or}
use Rattle.std.specs.Prelude.{◌==◌, ◌&&◌, ◌||◌, nat_lt, nat_le, if◌then◌else◌}
use Rattle.std.specs.Borrow.{Bor}
use Rattle.std.specs.Cmp.Derive.{both_true}
use Rattle.std.specs.List.{All, list_all, range_with_len}
use Rattle.std.specs.declared.option.Option.{Option}
use Rattle.std.proofs.lemmas.Bool.{eq-eqb, eqb-true, le-leb, leb-true, lt-ltb, ltb-false, ltb-true}
use Rattle.std.proofs.lemmas.List.Elements.{All-from_get_or, All-get_or}
use Rattle.std.proofs.lemmas.List.Sums.{AllPass-from_list_all, list_all-from_AllPass}
use Rattle.mp4_check.specs.TrackTables.{ChunksValue, agree, first_bytes, numbers_in, offsets_in, whole_bytes}
use Rattle.mp4_check.specs.TrackTables.{whole_chunks}
use Rattle.mp4_lemmas.proofs.Booleans.{by_bool}
use Rattle.mp4_movie.specs.Ends.{end_of}
use Rattle.mp4_movie.specs.Tables.{AreChunksOf, AreTablesOf, now_of}
use Rattle.mp4_movie.specs.declared.sample_boxes.ChunkBox.{ChunkBox}
use Rattle.mp4_movie.specs.declared.sample_boxes.ChunkBox.TheVariants as boxes
use Rattle.mp4_movie.specs.declared.sample_boxes.SampleBoxes.{SampleBoxes}
use Rattle.mp4_samples.specs.ChunkExtents.{chunk_at, chunks_of}
use Rattle.mp4_samples.specs.Chunks.{chunks_increase, samples_through}
use Rattle.mp4_samples.specs.Runs.{durations, increases}
use Rattle.mp4_samples.specs.Samples.{AreConsistent, begins_at_one, offsets_of, stss_entries}
use Rattle.mp4_samples.specs.Sizes.{bytes_of}
use Rattle.mp4_samples.specs.declared.tables.ChunkOffsets.{ChunkOffsets}
use Rattle.mp4_samples.specs.declared.tables.ChunkOffsets.TheVariants as offsets
use Rattle.mp4_samples.specs.declared.chunks.ChunkExtent.{ChunkExtent}
use Rattle.mp4_samples.specs.declared.tables.Tables.{Tables}
use Rattle.mp4_tables.specs.declared.co64.Co64Box.{Co64Box}
use Rattle.mp4_tables.specs.declared.stco.StcoBox.{StcoBox}
use Rattle.mp4_tables.specs.declared.stsc.StscBox.{StscBox}
use Rattle.mp4_tables.specs.declared.stsc_entry.StscEntry.{StscEntry}
use Rattle.mp4_tables.specs.declared.stss.StssBox.{StssBox}
use Rattle.mp4_tables.specs.declared.stsz.StszBox.{StszBox}
use Rattle.mp4_tables.specs.declared.stts.SttsBox.{SttsBox}
use Rattle.mp4_tables.specs.declared.stts_entry.SttsEntry.{SttsEntry}

-- The test, over the values that it needs.
abbrev pub fits : StszBox → ℕ → Bool
fits z offset = nat_lt (offset + bytes_of z 0 z.sample_count) (2 ^ 64)

abbrev pub has_sizes : StszBox → Bool
has_sizes z = nat_lt 0 z.sample_size || (length z.sample_sizes == z.sample_count)

abbrev pub test : StszBox → List StscEntry → List ℕ → List SttsEntry → List ℕ → Bool
test z es places times numbers =
    has_sizes z
    && (begins_at_one es && (chunks_increase 0 es && (nat_lt (length places) (2 ^ 32)
    && (nat_le z.sample_count (samples_through es (length places))
    && (nat_le z.sample_count (length (durations times)) && (increases 0 numbers && list_all (fits z) places))))))

abbrev pub of_tables : {A : Type 0} → (StszBox → List StscEntry → List ℕ → List SttsEntry → List ℕ → A) → Tables → A
of_tables F t =
    F t.stsz.now t.stsc.now.entries (offsets_of t.chunk_offsets) t.stts.now.entries (stss_entries t.stss)

both : (a b : Bool) → (a && b) ≡ true → (a ≡ true) × (b ≡ true)
both true b h = (refl, h)
both false b h = absurd cc

listed : (z : StszBox) → has_sizes z ≡ true → z.sample_size ≡ 0 → length z.sample_sizes ≡ z.sample_count
listed z h zero =
    by_bool (nat_lt 0 z.sample_size)
    (λ more. absurd (omega (arith, ltb-true 0 z.sample_size more, zero)))
    (λ none. eqb-true (length z.sample_sizes) z.sample_count
    (sym (ap (λ (b : Bool). b || (length z.sample_sizes == z.sample_count)) none) ∙ h))

listed_passes : (z : StszBox) → (z.sample_size ≡ 0 → length z.sample_sizes ≡ z.sample_count) → has_sizes z ≡ true
listed_passes z same =
    by_bool (nat_lt 0 z.sample_size)
    (λ more. ap (λ (b : Bool). b || (length z.sample_sizes == z.sample_count)) more)
    (λ none. ap (λ (b : Bool). b || (length z.sample_sizes == z.sample_count)) none
    ∙ eq-eqb (length z.sample_sizes) z.sample_count
    (same (omega (arith, ltb-false 0 z.sample_size none))))

within : (z : StszBox) (places : List ℕ) → list_all (fits z) places ≡ true
    → All (λ offset. offset + bytes_of z 0 z.sample_count < 2 ^ 64) places
within z places h =
    All-from_get_or (λ (offset : ℕ). offset + bytes_of z 0 z.sample_count < 2 ^ 64) places 0
    (λ i lt. ltb-true (get_or places i 0 + bytes_of z 0 z.sample_count) (2 ^ 64)
    (All-get_or (λ (offset : ℕ). fits z offset ≡ true) places i 0 lt (AllPass-from_list_all (fits z) places h)))

within_passes : (z : StszBox) (places : List ℕ)
    → All (λ offset. offset + bytes_of z 0 z.sample_count < 2 ^ 64) places → list_all (fits z) places ≡ true
within_passes z places h =
    list_all-from_AllPass (fits z) places
    (All-from_get_or (λ (offset : ℕ). fits z offset ≡ true) places 0
    (λ i lt. lt-ltb (get_or places i 0 + bytes_of z 0 z.sample_count) (2 ^ 64)
    (All-get_or (λ (offset : ℕ). offset + bytes_of z 0 z.sample_count < 2 ^ 64) places i 0 lt h)))

consistent : (t : Tables) → of_tables test t ≡ true → AreConsistent t
consistent t passes =
    let a = both _ _ passes in
    let b = both _ _ a.1 in
    let c = both _ _ b.1 in
    let d = both _ _ c.1 in
    let e = both _ _ d.1 in
    let f = both _ _ e.1 in
    let g = both _ _ f.1 in
    record {
      listed = λ zero. listed t.stsz.now a.0 zero;
      first = b.0;
      increase = c.0;
      counted = ltb-true _ _ d.0;
      placed = leb-true _ _ e.0;
      timed = leb-true _ _ f.0;
      sync = g.0;
      within = within t.stsz.now (offsets_of t.chunk_offsets) g.1;
    }

passes : (t : Tables) → AreConsistent t → of_tables test t ≡ true
passes t is =
    both_true (listed_passes t.stsz.now is.listed) (both_true is.first (both_true is.increase
    (both_true (lt-ltb _ _ is.counted) (both_true (le-leb _ _ is.placed) (both_true (le-leb _ _ is.timed)
    (both_true is.sync (within_passes t.stsz.now (offsets_of t.chunk_offsets) is.within)))))))

-- Tables and their boxes give the same values.
offsets_are : (b : ChunkBox) (o : ChunkOffsets) → AreChunksOf b o → offsets_of o ≡ offsets_in b
offsets_are (boxes.Stco v) (offsets.Stco b) is = ap (λ (s : StcoBox). s.entries) is
offsets_are (boxes.Co64 v) (offsets.Co64 b) is = ap (λ (s : Co64Box). s.entries) is
offsets_are (boxes.Stco v) (offsets.Co64 b) is = absurd is
offsets_are (boxes.Co64 v) (offsets.Stco b) is = absurd is

numbers_are : (o : Option (Bor StssBox)) (s : Option StssBox) → now_of o ≡ s → stss_entries o ≡ numbers_in s
numbers_are None s is = ap numbers_in is
numbers_are (Some b) s is = ap numbers_in is

abbrev pub of_boxes : {A : Type 0} → (StszBox → List StscEntry → List ℕ → List SttsEntry → List ℕ → A) → SampleBoxes → A
of_boxes F v = F v.stsz v.stsc.entries (offsets_in v.chunk_offsets) v.stts.entries (numbers_in v.stss)

same : {A : Type 0} (F : StszBox → List StscEntry → List ℕ → List SttsEntry → List ℕ → A) (v : SampleBoxes)
    (t : Tables) → AreTablesOf v t → of_tables F t ≡ of_boxes F v
same F v t are =
    ap (λ (z : StszBox). F z t.stsc.now.entries (offsets_of t.chunk_offsets) t.stts.now.entries
    (stss_entries t.stss)) are.stsz
    ∙ ap (λ (s : StscBox). F v.stsz s.entries (offsets_of t.chunk_offsets) t.stts.now.entries
    (stss_entries t.stss)) are.stsc
    ∙ ap (λ (os : List ℕ). F v.stsz v.stsc.entries os t.stts.now.entries (stss_entries t.stss))
    (offsets_are v.chunk_offsets t.chunk_offsets are.chunks)
    ∙ ap (λ (s : SttsBox). F v.stsz v.stsc.entries (offsets_in v.chunk_offsets) s.entries (stss_entries t.stss))
    are.stts
    ∙ ap (λ (ns : List ℕ). F v.stsz v.stsc.entries (offsets_in v.chunk_offsets) v.stts.entries ns)
    (numbers_are t.stss v.stss are.stss)

abbrev pub made : List ChunkExtent → Option ℕ → Bool → ChunksValue
made chunks time_end disagree = record { chunks = chunks; time_end = time_end; disagree = disagree }

abbrev pub chosen : SampleBoxes → Bool → ChunksValue
chosen v b =
    if b then made (whole_bytes v) (Some (end_of v.stts.entries)) false else
    made (first_bytes v.chunk_offsets) None true

-- The tables agree.
pub whole_if_ok : (v : SampleBoxes) (t : Tables) (chunks : List ChunkExtent) (end : ℕ) → AreTablesOf v t
    → AreConsistent t → chunks ≡ chunks_of t → end ≡ end_of v.stts.entries
    → made chunks (Some end) false ≡ whole_chunks v
whole_if_ok v t chunks end are is given ended =
    let yes : agree v ≡ true = sym (same test v t are) ∙ passes t is in
    let bytes : chunks ≡ whole_bytes v =
    given ∙ same (λ z es places times numbers.
    map (chunk_at z es places) (range_with_len 1 (length places))) v t are in
    ap (λ (xs : List ChunkExtent). made xs (Some end) false) bytes
    ∙ ap (λ (e : ℕ). made (whole_bytes v) (Some e) false) ended
    ∙ sym (ap (chosen v) yes)

-- The tables disagree.
pub loose_if_err : (v : SampleBoxes) (t : Tables) (chunks : List ChunkExtent) → AreTablesOf v t → ¬ AreConsistent t
    → chunks ≡ first_bytes v.chunk_offsets → made chunks None true ≡ whole_chunks v
loose_if_err v t chunks are differ given =
    by_bool (agree v)
    (λ yes. absurd (differ (consistent t (same test v t are ∙ yes))))
    (λ no. ap (λ (xs : List ChunkExtent). made xs None true) given ∙ sym (ap (chosen v) no))
