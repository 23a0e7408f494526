-- The number of the samples of a track, their bytes and their durations: those of its tables, and those of its
-- fragments. The largest number of 64 bits stands for all larger ones.
use Rattle.std.specs.Prelude.{ℕ, ◌+◌, ◌-◌, ◌*◌, ◌^◌, ◌==◌, ◌&&◌, bit_and, nat_le, nat_lt, Bool, List, [], ◌∷◌}
use Rattle.std.specs.Prelude.{count_by, flat_map, length, min, sum, sum_by, unwrap_or, Result, Ok, Err, None, Some}
use Rattle.std.specs.Prelude.{if◌then◌else◌}
use Rattle.std.specs.Borrow.{Bor}
use Rattle.std.specs.Int.{w32, cast_unsigned}
use Rattle.std.specs.declared.option.Option.{Option}
use Rattle.mp4_flat.specs.declared.tfdt.TfdtBox.{TfdtBox}
use Rattle.mp4_info.specs.Composition.{largest, later, raised, run_end}
use Rattle.mp4_info.specs.Digits.{bit}
use Rattle.mp4_info.specs.declared.totals.Piece.{Piece}
use Rattle.mp4_info.specs.declared.totals.Totals.{Totals}
use Rattle.mp4_movie.specs.declared.error.BoxError.{BoxError}
use Rattle.mp4_movie.specs.declared.moof.MoofFragments.{MoofFragments}
use Rattle.mp4_movie.specs.declared.sample_boxes.SampleBoxes.{SampleBoxes}
use Rattle.mp4_movie.specs.declared.track_fragment.TrackFragment.{TrackFragment}
use Rattle.mp4_tables.specs.declared.ctts.CttsBox.{CttsBox}
use Rattle.mp4_tables.specs.declared.ctts_entry.CttsEntry.{CttsEntry}
use Rattle.mp4_tables.specs.declared.stss.StssBox.{StssBox}
use Rattle.mp4_tables.specs.declared.stsz.StszBox.{StszBox}
use Rattle.mp4_tables.specs.declared.stts_entry.SttsEntry.{SttsEntry}
use Rattle.mp4_tables.specs.declared.trun.TrunBox.{TrunBox}

-- the number of samples that have a duration (ISO/IEC 14496-12, 8.6.1.2)
abbrev pub sample_count : List SttsEntry → ℕ
sample_count es = min (sum_by (λ (e : SttsEntry). e.sample_count) es) largest

-- the sum of their durations
abbrev pub sample_time : List SttsEntry → ℕ
sample_time es = min (sum_by (λ (e : SttsEntry). e.sample_count * e.sample_delta) es) largest

-- the time at which the first `count` samples of these entries end, which are all samples if there are fewer
abbrev pub time_after : ℕ → List SttsEntry → ℕ
time_after count [] = 0
time_after count (e ∷ es) =
    min count e.sample_count * e.sample_delta + time_after (count - e.sample_count) es

abbrev pub end_after : ℕ → List SttsEntry → ℕ
end_after count es = min (time_after count es) largest

-- The largest composition time at which a sample ends, and `latest`. Each sample ends its duration after its decoding
-- time, plus its composition offset (8.6.1.3). `cs` have the offsets of the samples after the first `count`. The
-- samples of an entry of `cs` have one offset, so the last one ends last. The samples after these have the offset 0.
abbrev pub offset_end : List SttsEntry → ℕ → ℕ → List CttsEntry → ℕ
offset_end es count latest [] = later (sample_count es - count) latest (sample_time es) (2 ^ 31)
offset_end es count latest (c ∷ cs) =
    offset_end es (min (count + c.sample_count) largest)
    (later (min (sample_count es - count) c.sample_count) latest
    (end_after (min (count + c.sample_count) largest) es) (raised 1 (cast_unsigned w32 c.sample_offset))) cs

-- the largest composition time at which a sample of tables ends: without a `ctts`, each offset is 0
abbrev pub offsets_of : Option CttsBox → List CttsEntry
offsets_of None = []
offsets_of (Some v) = v.entries

abbrev pub tables_end : List SttsEntry → Option CttsBox → ℕ
tables_end es ctts = offset_end es 0 0 (offsets_of ctts)

-- the sum of sizes or of durations
abbrev pub listed_sum : List ℕ → ℕ
listed_sum ns = min (sum ns) largest

-- the bytes of all samples of tables (8.7.3)
abbrev pub sample_bytes : StszBox → ℕ
sample_bytes v = if v.sample_size == 0 then listed_sum v.sample_sizes else v.sample_size * v.sample_count

-- a number is that of a sample, which are counted from 1
abbrev pub is_sample : ℕ → ℕ → Bool
is_sample samples n = nat_lt 0 n && nat_le n samples

abbrev pub listed_samples : List ℕ → ℕ → ℕ
listed_samples numbers samples = count_by (is_sample samples) numbers

-- the number of key frames: those in the list that are samples, or all samples without a list (8.6.2)
abbrev pub key_frames : Option (Bor StssBox) → ℕ → ℕ
key_frames None samples = samples
key_frames (Some b) samples = listed_samples b.now.entries samples

abbrev pub key_frames_of : Option StssBox → ℕ → ℕ
key_frames_of None samples = samples
key_frames_of (Some v) samples = listed_samples v.entries samples

-- the totals of tables. The samples end when their durations have passed
abbrev pub totals_of_tables : SampleBoxes → Totals
totals_of_tables v = record {
  samples = v.stsz.sample_count;
  key_frames = key_frames_of v.stss v.stsz.sample_count;
  bytes = sample_bytes v.stsz;
  time = sample_time v.stts.entries;
  end = sample_time v.stts.entries;
  latest = tables_end v.stts.entries v.ctts;
}

abbrev pub no_totals : Totals
no_totals = record { samples = 0; key_frames = 0; bytes = 0; time = 0; end = 0; latest = 0 }

abbrev pub first_totals : Option SampleBoxes → Totals
first_totals None = no_totals
first_totals (Some v) = totals_of_tables v

-- The samples of a run that lists no number for them have the default (8.8.8), which is that of the fragment (8.8.7),
-- or of the track if the fragment has none (8.8.3).
abbrev pub default_duration : TrackFragment → ℕ
default_duration x = unwrap_or x.header.default_sample_duration x.defaults.default_sample_duration

abbrev pub default_size : TrackFragment → ℕ
default_size x = unwrap_or x.header.default_sample_size x.defaults.default_sample_size

abbrev pub default_flags : TrackFragment → ℕ
default_flags x = unwrap_or x.header.default_sample_flags x.defaults.default_sample_flags

-- the sum of the sizes or durations of `count` samples, of which a run lists the first ones
abbrev pub run_sum : List ℕ → ℕ → ℕ → ℕ
run_sum listed count default = min (listed_sum listed + (count - length listed) * default) largest

-- a sample is a key frame unless its flags have `sample_is_non_sync_sample` (8.8.3.1)
abbrev pub is_key_frame : ℕ → Bool
is_key_frame flags = bit_and flags 0x10000 == 0

-- the key frames among `count` samples for which a run lists no flags; it may have other flags for its first sample
abbrev pub other_key_frames : Option ℕ → ℕ → ℕ → ℕ
other_key_frames None default count = count * bit (is_key_frame default)
other_key_frames (Some flags) default count =
    if count == 0 then 0 else bit (is_key_frame flags) + (count - 1) * bit (is_key_frame default)

abbrev pub run_key_frames : ℕ → TrunBox → ℕ
run_key_frames default t =
    count_by is_key_frame t.sample_flags
    + other_key_frames t.first_sample_flags default (t.sample_count - length t.sample_flags)

-- the totals with those of one more run
abbrev pub run_time : TrackFragment → TrunBox → ℕ
run_time x t = run_sum t.sample_durations t.sample_count (default_duration x)

abbrev pub run_bytes : TrackFragment → TrunBox → ℕ
run_bytes x t = run_sum t.sample_sizes t.sample_count (default_size x)

abbrev pub with_run : Totals → TrackFragment → TrunBox → Totals
with_run s x t = record {
  samples = min (s.samples + t.sample_count) largest;
  key_frames = min (s.key_frames + run_key_frames (default_flags x) t) largest;
  bytes = min (s.bytes + run_bytes x t) largest;
  time = min (s.time + run_time x t) largest;
  end = min (s.end + run_time x t) largest;
  latest = later t.sample_count s.latest s.end (run_end (default_duration x) (run_time x t) t);
}

abbrev pub with_runs : Totals → TrackFragment → List TrunBox → Totals
with_runs s x [] = s
with_runs s x (t ∷ ts) = with_runs (with_run s x t) x ts

-- a fragment: the totals of its runs, and the time at which it starts if it has a `tfdt` (8.8.12)
abbrev pub start_in : Option TfdtBox → Option ℕ
start_in None = None
start_in (Some v) = Some v.base_media_decode_time

abbrev pub piece_of : TrackFragment → Piece
piece_of x = record { totals = with_runs no_totals x x.runs.items; start = start_in x.time }

-- it starts there, or else where the samples before it end
abbrev pub start_or : Option ℕ → ℕ → ℕ
start_or None end = end
start_or (Some start) end = start

abbrev pub with_piece : Totals → Piece → Totals
with_piece s p = record {
  samples = min (s.samples + p.totals.samples) largest;
  key_frames = min (s.key_frames + p.totals.key_frames) largest;
  bytes = min (s.bytes + p.totals.bytes) largest;
  time = min (s.time + p.totals.time) largest;
  end = min (start_or p.start s.end + p.totals.time) largest;
  latest = later p.totals.samples s.latest (start_or p.start s.end) p.totals.latest;
}

abbrev pub with_pieces : Totals → List Piece → Totals
with_pieces s [] = s
with_pieces s (p ∷ ps) = with_pieces (with_piece s p) ps

-- the fragment that a traf is, if it is one of the track with this track_ID
abbrev pub answer_pieces : ℕ → Result TrackFragment BoxError → List Piece
answer_pieces id (Ok x) = if x.header.track_id == id then piece_of x ∷ [] else []
answer_pieces id (Err _) = []

abbrev pub moof_pieces : ℕ → MoofFragments → List Piece
moof_pieces id m = flat_map (answer_pieces id) m.fragments.items

-- the fragments of the track, in the order of the file
abbrev pub pieces_of : ℕ → List MoofFragments → List Piece
pieces_of id moofs = flat_map (moof_pieces id) moofs

-- the largest composition time at which a sample ends
abbrev pub shown_end : Totals → ℕ
shown_end s = s.latest - 2 ^ 31

-- the totals of a track: those of its tables, then those of its fragments
abbrev pub totals_of : Option SampleBoxes → List Piece → Totals
totals_of tables pieces = with_pieces (first_totals tables) pieces
