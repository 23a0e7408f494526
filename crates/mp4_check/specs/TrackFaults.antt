-- The faults of the tracks of the movie, in the order of the file. TrackTables, Headers, Durations, Outside and Overlap
-- have the rules.
use Rattle.std.specs.Prelude.{◌≡◌, ℕ, ◌==◌, Bool, true, false, nat_lt, List, [], ◌∷◌, ◌++◌, fold}
use Rattle.std.specs.Prelude.{is_some, option_map, option_and_then, None, Some, if◌then◌else◌}
use Rattle.std.specs.BTreeMap.{get}
use Rattle.std.specs.Ordering.{nat_cmp}
use Rattle.std.specs.declared.option.Option.{Option}
use Rattle.mp4_check.specs.Durations.{converted, duration_fault, longer}
use Rattle.mp4_check.specs.FaultValues.{Value, fault_at}
use Rattle.mp4_check.specs.Headers.{edits_of, media_times, track_header}
use Rattle.mp4_check.specs.Outside.{chunks_outside}
use Rattle.mp4_check.specs.Overlap.{chunks_overlap}
use Rattle.mp4_content.specs.Paths.{in_track, next, single}
use Rattle.mp4_check.specs.References.{is_away}
use Rattle.mp4_check.specs.TrackTables.{ChunksValue, chunk_table, loose_chunks, sample_table, track_chunks}
use Rattle.mp4_check.specs.TrackTables.{value_of_chunks}
use Rattle.mp4_check.specs.declared.duration.Duration.{Duration}
use Rattle.mp4_check.specs.declared.duration.Times.{Times}
use Rattle.mp4_check.specs.declared.extent.Extent.{Extent}
use Rattle.mp4_check.specs.declared.fault.What.{What}
use Rattle.mp4_check.specs.declared.fault.What.TheVariants as what
use Rattle.mp4_check.specs.declared.headers.EditTimes.{EditTimes}
use Rattle.mp4_check.specs.declared.headers.EditTimes.TheVariants as edits
use Rattle.mp4_check.specs.declared.headers.TrackHeader.{TrackHeader}
use Rattle.mp4_check.specs.declared.tables.ChunkTable.{ChunkTable}
use Rattle.mp4_check.specs.declared.tracks.Met.{Met}
use Rattle.mp4_check.specs.declared.tracks.MovieFacts.{MovieFacts}
use Rattle.mp4_check.specs.declared.tracks.TrackValues.{TrackValues}
use Rattle.mp4_frame.specs.declared.codes.TheConstants as codes
use Rattle.mp4_movie.specs.Levels.{Found, after_of}
use Rattle.mp4_samples.specs.declared.chunks.ChunkExtent.{ChunkExtent}
use Rattle.mp4_walk.specs.Tops.{is_whole}
use Rattle.mp4_walk.specs.declared.tree_box.TreeBox.{TreeBox}

-- what the rules need of the movie: the media data and the length of the file, the times in `mvhd`, and whether
-- fragments may follow
pub record Facts : Type 0 where
  pub media : List Extent
  pub length : ℕ
  pub times : Option Times
  pub fragmented : Bool

abbrev pub value_of_facts : MovieFacts → Facts
value_of_facts f =
    record {
      media = f.media.extents.items;
      length = f.media.length;
      times = f.times;
      fragmented = f.is_fragmented;
    }

abbrev pub has_track_id : ℕ → Option TrackHeader → Bool
has_track_id id None = false
has_track_id id (Some h) = h.track_id == id

abbrev pub position_of : Option TrackHeader → ℕ
position_of None = 0
position_of (Some h) = h.position

-- the position of a header, if it has this track_ID
abbrev pub header_for : ℕ → Option TrackHeader → Option ℕ
header_for id h = if has_track_id id h then Some (position_of h) else None

-- the position of the `tkhd` of the first of these tracks that has this track_ID
abbrev pub first_header : List ℕ → ℕ → List Found → Option ℕ
first_header file id [] = None
first_header file id (f ∷ fs) =
    if has_track_id id (track_header file f.after) then Some (position_of (track_header file f.after)) else
    first_header file id fs

-- whether the first of these tracks that has this track_ID may have its media data in another file
abbrev pub is_track_away : List ℕ → ℕ → List Found → Bool
is_track_away file id [] = false
is_track_away file id (f ∷ fs) =
    if has_track_id id (track_header file f.after) then is_away file f.after else is_track_away file id fs

abbrev pub longer_track : Option ℕ → Option TrackHeader → Option ℕ
longer_track longest None = longest
longer_track longest (Some h) = longer longest h.version h.duration

-- the longest duration of these tracks
abbrev pub longest_track : List ℕ → List Found → Option ℕ
longest_track file fs = fold (λ longest f. longer_track longest (track_header file f.after)) None fs

-- no track_ID is 0, and no two are equal (ISO/IEC 14496-12, 8.3.2.3)
abbrev pub id_what : TrackHeader → Option ℕ → Option What
id_what h earlier =
    if h.track_id == 0 then Some what.TrackZero else option_map (λ p. what.TrackTwice h.track_id p) earlier

abbrev pub media_duration : Option ℕ → Option Times → ℕ → Option ℕ
media_duration (Some end) (Some t) timescale =
    if nat_lt 0 t.timescale then Some (converted end t.timescale timescale) else None
media_duration (Some end) None timescale = None
media_duration None times timescale = None

-- the duration of a track in a timescale: that of its edits, or of its media if it has no edits
abbrev pub track_duration : EditTimes → Option ℕ → Option Times → ℕ → Option ℕ
track_duration edits.None time_end times timescale = media_duration time_end times timescale
track_duration edits.Unknown time_end times timescale = None
track_duration (edits.Known duration) time_end times timescale = Some duration

abbrev pub no_chunks : ChunksValue
no_chunks = record { chunks = []; time_end = None; disagree = false }

-- the chunks of a track. A sample table that is not whole is not used
abbrev pub chunks_in : List ℕ → Option Found → ChunksValue
chunks_in file None = no_chunks
chunks_in file (Some f) = if is_whole f.box.state then track_chunks file f.after else loose_chunks file f.after

abbrev pub table_position : Option Found → ℕ
table_position None = 0
table_position (Some f) = f.box.position

-- the values of a track that its rules need
pub record TrackValue : Type 0 where
  pub header : Option TrackHeader
  pub times : Option Times
  pub edits : EditTimes
  pub away : Bool
  pub chunks : ChunksValue
  pub table : ℕ
  pub chunk_table : Option ChunkTable

abbrev pub track_value : List ℕ → List TreeBox → TrackValue
track_value file trak = record {
  header = track_header file trak;
  times = media_times file trak;
  edits = edits_of file trak;
  away = is_away file trak;
  chunks = chunks_in file (sample_table trak);
  table = table_position (sample_table trak);
  chunk_table = chunk_table (after_of (sample_table trak));
}

abbrev pub value_of_track : TrackValues → TrackValue
value_of_track v = record {
  header = v.header;
  times = v.times;
  edits = v.edits;
  away = v.is_away;
  chunks = value_of_chunks v.chunks;
  table = v.table;
  chunk_table = v.chunk_table;
}

abbrev pub track_fault : Facts → TrackValue → TrackHeader → Option Duration
track_fault facts v h =
    option_and_then
    (λ (movie : Times). option_and_then (λ found. duration_fault h.version h.duration movie.timescale found)
    (track_duration v.edits v.chunks.time_end v.times movie.timescale)) facts.times

abbrev pub if_not : {A : Type 0} → Bool → Option A → Option A
if_not true o = None
if_not false o = o

-- the fault of the first box at these codes in a track
abbrev pub in_this : ℕ → List ℕ → ℕ → Option What → List Value
in_this number these position w = fault_at position (in_track number these) w

-- the faults of a header, if this is the position of the header of an earlier track with its track_ID
abbrev pub header_faults : Facts → ℕ → TrackValue → Option ℕ → Option TrackHeader → List Value
header_faults facts number v earlier None = []
header_faults facts number v earlier (Some h) =
    in_this number (codes.TKHD ∷ []) h.position (id_what h earlier)
    ++ in_this number (codes.TKHD ∷ []) h.position
    (if_not facts.fragmented (option_map what.TrackDuration (track_fault facts v h)))

abbrev pub media_fault : Times → Option ℕ → Option Duration
media_fault t time_end = option_and_then (λ end. duration_fault t.version t.duration t.timescale end) time_end

abbrev pub media_faults : ℕ → Option ℕ → Option Times → List Value
media_faults number time_end None = []
media_faults number time_end (Some t) =
    in_this number (codes.MDIA ∷ codes.MDHD ∷ []) t.position (option_map what.MediaDuration (media_fault t time_end))

abbrev pub table_faults : ℕ → TrackValue → List Value
table_faults number v =
    in_this number (codes.MDIA ∷ codes.MINF ∷ codes.STBL ∷ []) v.table
    (if v.chunks.disagree then Some what.Disagree else None)

abbrev pub chunk_faults : List Extent → ℕ → ℕ → List ChunkExtent → ChunkTable → List Value
chunk_faults media length number chunks t =
    let these = codes.MDIA ∷ codes.MINF ∷ codes.STBL ∷ t.code ∷ [] in
    in_this number these t.position (option_map what.ChunksOutside (chunks_outside media length chunks))
    ++ in_this number these t.position (option_map what.ChunksOverlap (chunks_overlap None 1 chunks))

abbrev pub table_chunk_faults : Facts → ℕ → TrackValue → Option ChunkTable → List Value
table_chunk_faults facts number v None = []
table_chunk_faults facts number v (Some t) = chunk_faults facts.media facts.length number v.chunks.chunks t

-- the faults of a track with these values: its track_ID, the duration in its header, that of its media, its tables, and
-- its chunks, if they are in this file
abbrev pub faults_by : Facts → ℕ → TrackValue → Option ℕ → List Value
faults_by facts number v earlier =
    header_faults facts number v earlier v.header
    ++ ((if facts.fragmented then [] else media_faults number v.chunks.time_end v.times)
    ++ (table_faults number v ++ (if v.away then [] else table_chunk_faults facts number v v.chunk_table)))

-- the position of the header of the first of these tracks that has the track_ID of a header
abbrev pub earlier_of : List ℕ → List Found → Option TrackHeader → Option ℕ
earlier_of file fs None = None
earlier_of file fs (Some h) = first_header file h.track_id fs

-- the faults of a track after these
abbrev pub track_faults : List ℕ → Facts → List Found → ℕ → List TreeBox → List Value
track_faults file facts earlier number trak =
    faults_by facts number (track_value file trak) (earlier_of file earlier (track_header file trak))

-- the faults of these tracks, of which the first has this number
abbrev pub faults_of_tracks : List ℕ → Facts → List Found → ℕ → List Found → List Value
faults_of_tracks file facts earlier number [] = []
faults_of_tracks file facts earlier number (f ∷ fs) =
    track_faults file facts earlier number f.after
    ++ faults_of_tracks file facts (earlier ++ f ∷ []) (next number) fs

-- the duration of the movie is that of its longest track
abbrev pub movie_fault : Facts → Option ℕ → Option Duration
movie_fault facts longest =
    if_not facts.fragmented (option_and_then
    (λ (t : Times). option_and_then (λ found. duration_fault t.version t.duration t.timescale found) longest)
    facts.times)

abbrev pub header_position : Option Times → ℕ
header_position None = 0
header_position (Some t) = t.position

abbrev pub movie_faults : Facts → Option ℕ → List Value
movie_faults facts longest =
    fault_at (header_position facts.times) (single codes.MOOV 0 ∷ single codes.MVHD 0 ∷ [])
    (option_map what.MovieDuration (movie_fault facts longest))

-- what is stored of these tracks
pub record IsMet (file : List ℕ) (fs : List Found) (met : Met) : Type 0 where
  pub headers_are : (id : ℕ) → get nat_cmp met.headers id ≡ first_header file id fs
  pub away_are : (id : ℕ) → is_some (get nat_cmp met.away id) ≡ is_track_away file id fs
  pub longest_is : met.longest ≡ longest_track file fs
