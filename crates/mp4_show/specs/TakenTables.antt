-- Tables of samples, which are made of the parts that are taken.
use Rattle.std.specs.Prelude.{ℕ, ℤ, pos, negsuc, ◌+◌, ◌-◌, ◌%◌, ◌^◌, ◌==◌, Bool, true, List, [], ◌∷◌, map}
use Rattle.std.specs.Prelude.{Option, Some, None, if◌then◌else◌, Ok}
use Rattle.std.specs.Int.{w16, w64, cast_unsigned}
use Rattle.json.specs.Json.{Json}
use Rattle.mp4_tables.specs.Chunks.{chunks_fit, number_samples}
use Rattle.mp4_tables.specs.declared.co64.Co64Box.{Co64Box}
use Rattle.mp4_tables.specs.declared.ctts.CttsBox.{CttsBox}
use Rattle.mp4_tables.specs.declared.ctts_entry.CttsEntry.{CttsEntry}
use Rattle.mp4_tables.specs.declared.elst.ElstBox.{ElstBox}
use Rattle.mp4_tables.specs.declared.elst_entry.ElstEntry.{ElstEntry}
use Rattle.mp4_tables.specs.declared.stco.StcoBox.{StcoBox}
use Rattle.mp4_tables.specs.declared.stsc.StscBox.{StscBox}
use Rattle.mp4_tables.specs.declared.stsc_entry.StscEntry.{StscEntry}
use Rattle.mp4_tables.specs.declared.stss.StssBox.{StssBox}
use Rattle.mp4_tables.specs.declared.stsz.StszBox.{StszBox}
use Rattle.mp4_tables.specs.declared.stts.SttsBox.{SttsBox}
use Rattle.mp4_tables.specs.declared.stts_entry.SttsEntry.{SttsEntry}
use Rattle.mp4_show.specs.Lists.{list_name}
use Rattle.mp4_show.specs.declared.taken.chunks.TheConstants.{DESCRIPTION_INDEX, FIRST_CHUNK, FIRST_SAMPLE}
use Rattle.mp4_show.specs.declared.taken.chunks.TheConstants.{SAMPLES_PER_CHUNK}
use Rattle.mp4_shown.specs.Event.{Text}
use Rattle.mp4_shown.specs.declared.number_name.NumberAs.TheVariants as number_as
use Rattle.mp4_shown.specs.TakenLists.{entries_taken, list_taken}
use Rattle.mp4_shown.specs.TakenNumbers.{number_taken, signed_taken}
use Rattle.mp4_shown.specs.Object.{has, object_taken}
use Rattle.mp4_shown.specs.TakenShapes.{Takes, map_taken, taken_if}
use Rattle.mp4_shown.specs.Taking.{Taking, refused, expect, within, entry_path, ◌>>=◌}
use Rattle.mp4_shown.specs.declared.taken.error.Reason.TheVariants as reasons

-- ---- stco

abbrev pub StcoParts : Type 0
StcoParts = ℕ × (ℕ × (List ℕ × Unit {0}))

abbrev pub make_stco : StcoParts → StcoBox
make_stco v = record {
  version = v.0;
  flags = v.1.0;
  entries = v.1.1.0;
}

-- ---- co64

abbrev pub Co64Parts : Type 0
Co64Parts = ℕ × (ℕ × (List ℕ × Unit {0}))

abbrev pub make_co64 : Co64Parts → Co64Box
make_co64 v = record {
  version = v.0;
  flags = v.1.0;
  entries = v.1.1.0;
}

-- ---- stss

abbrev pub StssParts : Type 0
StssParts = ℕ × (ℕ × (List ℕ × Unit {0}))

abbrev pub make_stss : StssParts → StssBox
make_stss v = record {
  version = v.0;
  flags = v.1.0;
  entries = v.1.1.0;
}

-- ---- stts

abbrev pub SttsParts : Type 0
SttsParts = ℕ × (ℕ × (List SttsEntry × Unit {0}))

abbrev pub make_stts : SttsParts → SttsBox
make_stts v = record {
  version = v.0;
  flags = v.1.0;
  entries = v.1.1.0;
}

-- ---- ctts

abbrev pub CttsParts : Type 0
CttsParts = ℕ × (ℕ × (List CttsEntry × Unit {0}))

abbrev pub make_ctts : CttsParts → CttsBox
make_ctts v = record {
  version = v.0;
  flags = v.1.0;
  entries = v.1.1.0;
}

-- ---- elst

abbrev pub ElstParts : Type 0
ElstParts = ℕ × (ℕ × (List ElstEntry × Unit {0}))

abbrev pub make_elst : ElstParts → ElstBox
make_elst v = record {
  version = v.0;
  flags = v.1.0;
  entries = v.1.1.0;
}

-- ---- stsz

abbrev pub StszParts : Type 0
StszParts = ℕ × (ℕ × (ℕ × (ℕ × (List ℕ × Unit {0}))))

abbrev pub make_stsz : StszParts → StszBox
make_stsz v = record {
  version = v.0;
  flags = v.1.0;
  sample_size = v.1.1.0;
  sample_count = v.1.1.1.0;
  sample_sizes = v.1.1.1.1.0;
}

-- as many sizes as there are samples, or none if all have one size
abbrev pub sizes_fit : ℕ → ℕ → ℕ → Bool
sizes_fit size count entries = if size == 0 then entries == count else entries == 0

-- ---- entries

abbrev pub make_run : ℕ × (ℕ × Unit {0}) → SttsEntry
make_run v = record { sample_count = v.0; sample_delta = v.1.0 }

abbrev pub make_offset : ℕ × (ℤ × Unit {0}) → CttsEntry
make_offset v = record { sample_count = v.0; sample_offset = v.1.0 }

-- ---- edits: 64 bits in version 1, and 32 in every other; only versions 0 and 1 have a sign

abbrev pub edit_bits : ℕ → ℕ
edit_bits version = if version == 1 then 64 else 32

abbrev pub least_edit : ℕ → ℤ
least_edit version = if version == 0 then negsuc (2 ^ 31 - 1) else if version == 1 then negsuc (2 ^ 63 - 1) else pos 0

abbrev pub most_edit : ℕ → ℤ
most_edit version =
    if version == 0 then pos (2 ^ 31 - 1) else if version == 1 then pos (2 ^ 63 - 1) else pos (2 ^ 32 - 1)

-- a media time without its sign, in 32 bits in version 0
abbrev pub time_bits : ℕ → ℤ → ℕ
time_bits version z = if version == 0 then cast_unsigned w64 z % 2 ^ 32 else cast_unsigned w64 z

abbrev pub edit_time_taken : Text → ℕ → Takes ℕ
edit_time_taken name version ms =
    map_taken (time_bits version)
    (signed_taken (name, number_as.Plain, record { now = [] }) (least_edit version) (most_edit version) ms)

abbrev pub make_edit : ℕ × (ℕ × (ℤ × (ℤ × Unit {0}))) → ElstEntry
make_edit v = record {
  segment_duration = v.0;
  media_time = v.1.0;
  media_rate = cast_unsigned w16 v.1.1.0;
  media_rate_fraction = cast_unsigned w16 v.1.1.1.0;
}

-- ---- stsc: the first sample of a run follows from the runs before it

-- a run, and its first sample if that is present
abbrev pub ChunkRun : Type 0
ChunkRun = StscEntry × Option ℕ

abbrev make_chunks : ℕ → ℕ → ℕ → StscEntry
make_chunks first samples index = record {
  first_chunk = first;
  samples_per_chunk = samples;
  sample_description_index = index;
  first_sample = 0;
}

abbrev pub first_taken : Takes (Option ℕ)
first_taken ms = taken_if (has FIRST_SAMPLE.0.now ms) (number_taken FIRST_SAMPLE 32) ms

abbrev pub chunk_members : Takes ChunkRun
chunk_members ms =
    number_taken FIRST_CHUNK 32 ms >>= λ p. number_taken SAMPLES_PER_CHUNK 32 p.1 >>= λ q.
    number_taken DESCRIPTION_INDEX 32 q.1 >>= λ r.
    first_taken r.1 >>= λ s.
    Ok ((make_chunks p.0 q.0 r.0, s.0), s.1)

abbrev pub chunk_taken : Json → Taking ChunkRun
chunk_taken j = object_taken chunk_members j

abbrev pub agrees_with : ℕ → Option ℕ → Bool
agrees_with n (Some m) = m == n
agrees_with n None = true

-- the first samples that are present are those that follow
abbrev pub firsts_agree : List ℕ → ℕ → List StscEntry → List ChunkRun → Taking (Unit {0})
firsts_agree name i [] runs = Ok tt
firsts_agree name i (e ∷ es) [] = Ok tt
firsts_agree name i (e ∷ es) (run ∷ runs) =
    within (entry_path name i) (expect (agrees_with e.first_sample run.1) FIRST_SAMPLE.0.now reasons.Contradiction)
    >>= λ _. firsts_agree name (i + 1) es runs

abbrev pub runs_of : List ChunkRun → List StscEntry
runs_of runs = map (λ run. run.0) runs

-- the runs with their first samples, if these fit 32 bits
abbrev pub entries_of : List ChunkRun → Option (List StscEntry)
entries_of runs = if chunks_fit (runs_of runs) then Some (number_samples (runs_of runs)) else None

abbrev pub after_firsts : List ℕ → List ChunkRun → Option (List StscEntry) → Taking (List StscEntry)
after_firsts name runs (Some entries) = firsts_agree name 0 entries runs >>= λ _. Ok entries
after_firsts name runs None = refused name reasons.OutOfRange

-- the runs with their first samples, which have to fit 32 bits
abbrev pub numbered_runs : List ℕ → List ChunkRun → Taking (List StscEntry)
numbered_runs name runs = after_firsts name runs (entries_of runs)

abbrev pub runs_taken : Text → Takes (List StscEntry)
runs_taken name ms =
    entries_taken chunk_taken (list_name name.now) (list_taken (list_name name.now) ms) >>= λ p.
    numbered_runs name.now p.0 >>= λ entries. Ok (entries, p.1)

abbrev pub StscParts : Type 0
StscParts = ℕ × (ℕ × (List StscEntry × Unit {0}))

abbrev pub make_stsc : StscParts → StscBox
make_stsc v = record { version = v.0; flags = v.1.0; entries = v.1.1.0 }
