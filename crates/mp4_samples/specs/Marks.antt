-- The marks that an index keeps of each table: the first sample of each run, and the bytes before every 64th size.
use Rattle.std.specs.Prelude.{ℕ, ◌≡◌, ◌+◌, ◌-◌, ◌*◌, ◌/◌, ◌<◌, ◌≤◌, ◌^◌, List, length, slice_index, slice_index_or}
use Rattle.std.specs.List.Sorted.{IsNonDecreasing}
use Rattle.std.specs.Vec.{vec_capacity}
use Rattle.mp4_tables.specs.declared.stsz.StszBox.{StszBox}
use Rattle.mp4_tables.specs.declared.stsc_entry.StscEntry.{StscEntry}
use Rattle.mp4_tables.specs.declared.stts_entry.SttsEntry.{SttsEntry}
use Rattle.mp4_tables.specs.declared.ctts_entry.CttsEntry.{CttsEntry}
use Rattle.mp4_samples.specs.declared.marks.Marks.{Marks}
use Rattle.mp4_samples.specs.declared.lookup.Hints.{Hints}
use Rattle.mp4_samples.specs.declared.tables.Tables.{Tables}
use Rattle.mp4_samples.specs.Runs.{sum_before}
use Rattle.mp4_samples.specs.Chunks.{no_entry}
use Rattle.mp4_samples.specs.Places.{GoesBy, place_at}
use Rattle.mp4_samples.specs.Sizes.{bytes_of}
use Rattle.mp4_samples.specs.Samples.{AreConsistent, sample_count, offsets_of, ctts_entries}

-- The first samples of the first runs.
pub record AreFirsts {X : Type 0} (count : X → ℕ) (xs : List X) (firsts : List ℕ) : Type 0 where
  pub within : length firsts ≤ length xs
  pub order : IsNonDecreasing firsts
  pub is : (i : ℕ) → i < length firsts → slice_index firsts i ≡ sum_before count xs i

abbrev pub AreFirstsOfDurations : List SttsEntry → List ℕ → Type 0
AreFirstsOfDurations es firsts = AreFirsts (λ (e : SttsEntry). e.sample_count) es firsts

abbrev pub AreBelow : ℕ → List ℕ → Type 0
AreBelow total firsts = (i : ℕ) → i < length firsts → slice_index firsts i < total

-- The next run, if any, does not begin before sample `total`.
abbrev pub AreAllFirsts : {X : Type 0} → (X → ℕ) → List X → ℕ → List ℕ → Type 0
AreAllFirsts count xs total firsts = length firsts < length xs → total ≤ sum_before count xs (length firsts)

-- The start times of these samples.
pub record AreTimes (es : List SttsEntry) (firsts times : List ℕ) : Type 0 where
  pub each : length times ≡ length firsts
  pub order : IsNonDecreasing times
  pub is : (i : ℕ) → i < length times
      → slice_index times i ≡ sum_before (λ (e : SttsEntry). e.sample_count * e.sample_delta) es i
  pub fits : (i : ℕ) → i < length times → slice_index times i ≤ slice_index firsts i * (2 ^ 32 - 1)

-- The number of samples before the first chunk of each of the first entries. They begin in the first `chunks` chunks.
pub record AreBefores (es : List StscEntry) (chunks : ℕ) (befores : List ℕ) : Type 0 where
  pub within : length befores ≤ length es
  pub order : IsNonDecreasing befores
  pub is : (i : ℕ) → i < length befores → GoesBy es (place_at es i (slice_index befores i))
  pub begun : (i : ℕ) → i < length befores → (slice_index_or es i no_entry).first_chunk ≤ chunks

-- The next entry, if any, does not begin in the first `chunks` chunks.
abbrev pub AreAllBefores : List StscEntry → ℕ → List ℕ → Type 0
AreAllBefores es chunks befores =
    length befores < length es → chunks < (slice_index_or es (length befores) no_entry).first_chunk

-- The number of bytes before every 64th sample, or nothing.
pub record AreBytes (z : StszBox) (bytes : List ℕ) : Type 0 where
  pub each : 0 < length bytes → length bytes ≡ z.sample_count / 64 + 1
  pub is : (i : ℕ) → i < length bytes → slice_index bytes i ≡ bytes_of z 0 (i * 64)

abbrev pub AreAllBytes : StszBox → List ℕ → Type 0
AreAllBytes z bytes = z.sample_size ≡ 0 → 0 < length bytes

-- Marks of the tables. A walk can begin at each.
pub record AreMarksOf (t : Tables) (befores firsts times shifts bytes : List ℕ) : Type 0 where
  pub chunk_marks : AreBefores t.stsc.now.entries (length (offsets_of t.chunk_offsets)) befores
  pub run_marks : AreFirstsOfDurations t.stts.now.entries firsts
  pub below : AreBelow (sample_count t) firsts
  pub time_marks : AreTimes t.stts.now.entries firsts times
  pub shift_marks : AreFirsts (λ (e : CttsEntry). e.sample_count) (ctts_entries t.ctts) shifts
  pub byte_marks : AreBytes t.stsz.now bytes

abbrev pub AreHints : Tables → Hints → Type 0
AreHints t h = AreMarksOf t h.befores.now h.firsts.now h.times.now h.shifts.now h.bytes.now

-- The marks of an index, which are all marks of the tables.
pub record AreMarks (t : Tables) (m : Marks) : Type 0 where
  pub are : AreMarksOf t m.befores.items m.firsts.items m.times.items m.shifts.items m.bytes.items
  pub all_befores : AreAllBefores t.stsc.now.entries (length (offsets_of t.chunk_offsets)) m.befores.items
  pub all_firsts : AreAllFirsts (λ (e : SttsEntry). e.sample_count) t.stts.now.entries (sample_count t) m.firsts.items
  pub all_shifts :
      AreAllFirsts (λ (e : CttsEntry). e.sample_count) (ctts_entries t.ctts) (sample_count t) m.shifts.items
  pub all_bytes : AreAllBytes t.stsz.now m.bytes.items

-- The bytes of memory that marks take.
abbrev pub bytes_of_marks : Marks → ℕ
bytes_of_marks m =
    8 * vec_capacity m.befores + 4 * vec_capacity m.firsts + 8 * vec_capacity m.times + 4 * vec_capacity m.shifts
    + 8 * vec_capacity m.bytes

-- The tables agree, and the marks are theirs.
pub record IsIndex (t : Tables) (m : Marks) : Type 0 where
  pub consistent : AreConsistent t
  pub marks : AreMarks t m
