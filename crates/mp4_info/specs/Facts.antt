-- The facts of a file and of its tracks. Sections are those of ISO/IEC 14496-12.
use Rattle.std.specs.Prelude.{◌≡◌, ℕ, ◌==◌, ◌&&◌, ◌||◌, nat_lt, not, true, Bool, List, [], ◌∷◌, length, map, max}
use Rattle.std.specs.Prelude.{Result, Ok, Err, None, Some, if◌then◌else◌}
use Rattle.std.specs.Option.{is_some}
use Rattle.std.specs.declared.option.Option.{Option}
use Rattle.mp4_extra_tracks.specs.declared.data.Data.{Data}
use Rattle.mp4_extra_samples.specs.declared.sidx.Sidx.{Sidx}
use Rattle.mp4_flat.specs.Boxes.{reads_mvhd}
use Rattle.mp4_flat.specs.declared.mvhd.MvhdBox.{MvhdBox}
use Rattle.mp4_frame.specs.FourCC.{four_cc_of, number_of}
use Rattle.mp4_frame.specs.Reading.{Reading}
use Rattle.mp4_frame.specs.declared.codes.TheConstants as codes
use Rattle.mp4_info.specs.Durations.{duration_of}
use Rattle.mp4_info.specs.Entries.{EntryReadings, IsFirst, entry_in}
use Rattle.mp4_info.specs.Found.{found}
use Rattle.mp4_info.specs.Headers.{HeaderReadings, headers_in, id_of, media_in, timescale_of}
use Rattle.mp4_info.specs.Rates.{bit_rate, frame_rate}
use Rattle.mp4_info.specs.RunTimes.{fragment_times, fragment_times_by, times_of}
use Rattle.mp4_info.specs.Tags.{tags_in}
use Rattle.mp4_info.specs.Totals.{pieces_of, sample_time, shown_end, totals_of}
use Rattle.mp4_info.specs.declared.durations.Duration.{Duration}
use Rattle.mp4_info.specs.declared.facts.Contents.{Contents}
use Rattle.mp4_info.specs.declared.facts.FileFacts.{FileFacts}
use Rattle.mp4_info.specs.declared.facts.FragmentTime.{FragmentTime}
use Rattle.mp4_info.specs.declared.facts.Heads.{Heads}
use Rattle.mp4_info.specs.declared.facts.SampleFacts.{SampleFacts}
use Rattle.mp4_info.specs.declared.facts.TrackFacts.{TrackFacts}
use Rattle.mp4_info.specs.declared.headers.Headers.{Headers}
use Rattle.mp4_info.specs.declared.totals.Piece.{Piece}
use Rattle.mp4_movie.specs.Fragments.{AreFragments}
use Rattle.mp4_movie.specs.Levels.{Found, after_of, first_in, movie_in}
use Rattle.mp4_movie.specs.Movies.{traks}
use Rattle.mp4_movie.specs.Problems.{Problem}
use Rattle.mp4_movie.specs.Tables.{tables_in}
use Rattle.mp4_movie.specs.declared.error.BoxError.{BoxError}
use Rattle.mp4_movie.specs.declared.moof.MoofFragments.{MoofFragments}
use Rattle.mp4_movie.specs.declared.sample_boxes.SampleBoxes.{SampleBoxes}
use Rattle.mp4_movie.specs.declared.track_fragment.TrackFragment.{TrackFragment}
use Rattle.mp4_tables.specs.declared.stts_entry.SttsEntry.{SttsEntry}
use Rattle.mp4_text.specs.Boxes.{reads_ftyp}
use Rattle.mp4_text.specs.declared.hdlr.HdlrBox.{HdlrBox}
use Rattle.mp4_walk.specs.FileBoxes.{boxes_of}
use Rattle.mp4_walk.specs.declared.tree_box.TreeBox.{TreeBox}

-- the readings of the declared boxes that are needed
pub record InfoReadings : Type 0 where
  pub headers : HeaderReadings
  pub entry : EntryReadings
  pub sidx : List ℕ → ℕ → ℕ → Reading Sidx
  pub item : List ℕ → ℕ → ℕ → Reading Data

-- an answer, unless it is a problem
abbrev pub known : {A : Type 0} → Result A Problem → Option A
known (Ok v) = Some v
known (Err _) = None

-- the samples of a track: their totals, and their rates
abbrev pub sample_facts : Option SampleBoxes → ℕ → List Piece → List SttsEntry → SampleFacts
sample_facts tables timescale pieces times = record {
  totals = totals_of tables pieces;
  frame_rate = frame_rate timescale (times_of tables times) (totals_of tables pieces).time;
  bit_rate = bit_rate timescale (totals_of tables pieces).bytes (totals_of tables pieces).time;
}

abbrev pub facts_if : Option (Option SampleBoxes) → ℕ → List Piece → List SttsEntry → Option SampleFacts
facts_if None timescale pieces times = None
facts_if (Some tables) timescale pieces times = Some (sample_facts tables timescale pieces times)

-- none for tables that can't be read
abbrev pub samples_in : List ℕ → List TreeBox → ℕ → ℕ → List MoofFragments → Option SampleFacts
samples_in file stbl id timescale moofs =
    facts_if (known (tables_in file stbl)) timescale (pieces_of id moofs) (fragment_times_by id moofs)

-- the boxes inside the `stbl` of a track (8.5.1). `trak` begins with the boxes inside the `trak`
abbrev pub stbl_in : List TreeBox → List TreeBox
stbl_in trak =
    after_of (first_in 4 (four_cc_of codes.STBL) (after_of (first_in 3 (four_cc_of codes.MINF) (media_in trak))))

-- the handler of media as a number, 0 if it is not known
abbrev pub handler_of : Option HdlrBox → ℕ
handler_of None = 0
handler_of (Some v) = number_of v.handler_type

-- the duration of a track; none without its samples
abbrev pub track_duration : Headers → Option SampleFacts → ℕ → Option Duration
track_duration h None movie = None
track_duration h (Some s) movie = duration_of h.edits movie (timescale_of h.media) s.totals.end (shown_end s.totals)

-- these are the values of a track, in a movie with this timescale
pub record IsTrack (r : InfoReadings) (file : List ℕ) (moofs : List MoofFragments) (movie : ℕ) (trak : List TreeBox)
    (t : TrackFacts) : Type 0 where
  pub headers : t.headers ≡ headers_in r.headers file trak
  pub entry : IsFirst r.entry file (handler_of (headers_in r.headers file trak).handler) (entry_in (stbl_in trak))
      t.entry
  pub samples : t.samples
      ≡ samples_in file (stbl_in trak) (id_of (headers_in r.headers file trak).track)
      (timescale_of (headers_in r.headers file trak).media) moofs
  pub duration : t.duration
      ≡ track_duration (headers_in r.headers file trak)
      (samples_in file (stbl_in trak) (id_of (headers_in r.headers file trak).track)
      (timescale_of (headers_in r.headers file trak).media) moofs) movie

-- those of these tracks, in order
abbrev pub AreTracks : InfoReadings → List ℕ → List MoofFragments → ℕ → List Found → List TrackFacts → Type 0
AreTracks r file moofs movie [] tracks = tracks ≡ []
AreTracks r file moofs movie (f ∷ fs) tracks =
    (one : TrackFacts) × (rest : List TrackFacts) × IsTrack r file moofs movie f.after one
    × AreTracks r file moofs movie fs rest × (tracks ≡ one ∷ rest)

-- the longest duration of tracks, in thousandths of a second: that of the movie (8.2.2). One that is not known counts
-- as 0
abbrev pub thousandths_of : Option Duration → ℕ
thousandths_of None = 0
thousandths_of (Some d) = d.thousandths

abbrev pub longest : List TrackFacts → ℕ
longest [] = 0
longest (t ∷ ts) = max (thousandths_of t.duration) (longest ts)

-- the main values of a track, of each track, and of a file are known
abbrev pub is_track_known : TrackFacts → Bool
is_track_known t =
    is_some t.headers.track
    && (is_some t.headers.media && (is_some t.headers.handler && (is_some t.entry && is_some t.duration)))

abbrev pub are_known : List TrackFacts → Bool
are_known [] = true
are_known (t ∷ ts) = is_track_known t && are_known ts

abbrev pub is_known : FileFacts → Bool
is_known t =
    ((is_some t.movie || not (length t.fragments.items == 0)) || t.has_items) && are_known t.tracks.items

abbrev pub movie_timescale : Option MvhdBox → ℕ
movie_timescale None = 0
movie_timescale (Some v) = v.timescale

-- a file with an `mvex` or a `moof` is fragmented (8.8.1 and 8.8.4)
abbrev pub is_fragmented : List TreeBox → Bool
is_fragmented boxes =
    is_some (first_in 1 (four_cc_of codes.MVEX) (movie_in boxes)) || is_some (first_in 0 (four_cc_of codes.MOOF) boxes)

-- the first `moov` is before the first `mdat`; none without one of them
abbrev pub order_of : Option Found → Option Found → Option Bool
order_of None media = None
order_of (Some movie) None = None
order_of (Some movie) (Some media) = Some (nat_lt movie.box.position media.box.position)

-- the first fragment of a `moof`: its track, and the sum of the durations of its samples
abbrev pub first_time : ℕ → List (Result TrackFragment BoxError) → FragmentTime
first_time position [] = record { position = position; track_id = 0; ticks = 0 }
first_time position (Ok x ∷ rs) =
    record { position = position; track_id = x.header.track_id; ticks = sample_time (fragment_times x) }
first_time position (Err _ ∷ rs) = first_time position rs

abbrev pub fragment_time : MoofFragments → FragmentTime
fragment_time m = first_time m.position m.fragments.items

-- the first boxes that say what a file with these boxes is
abbrev pub heads_in : InfoReadings → List ℕ → List TreeBox → Heads
heads_in r file boxes = record {
  brands = found reads_ftyp file (first_in 0 (four_cc_of codes.FTYP) boxes);
  movie = found reads_mvhd file (first_in 1 (four_cc_of codes.MVHD) (movie_in boxes));
  index = found r.sidx file (first_in 0 (four_cc_of codes.SIDX) boxes);
}

-- these are the tracks and the tags of the movie in a file with these boxes and fragments
pub record HasContents (r : InfoReadings) (file : List ℕ) (boxes : List TreeBox) (moofs : List MoofFragments)
    (movie : ℕ) (t : Contents) : Type 0 where
  pub tracks : AreTracks r file moofs movie (traks boxes) t.tracks.items
  pub tags : t.tags.items ≡ tags_in r.item file (movie_in boxes)

-- these are the values of a file with these boxes and fragments
pub record IsFileBy (r : InfoReadings) (file : List ℕ) (boxes : List TreeBox) (moofs : List MoofFragments)
    (t : FileFacts) : Type 0 where
  pub length : t.length ≡ length file
  pub brands : t.brands ≡ found reads_ftyp file (first_in 0 (four_cc_of codes.FTYP) boxes)
  pub movie : t.movie ≡ found reads_mvhd file (first_in 1 (four_cc_of codes.MVHD) (movie_in boxes))
  pub fragmented : t.is_fragmented ≡ is_fragmented boxes
  pub items : t.has_items ≡ is_some (first_in 0 (four_cc_of codes.META) boxes)
  pub order : t.movie_is_first
      ≡ order_of (first_in 0 (four_cc_of codes.MOOV) boxes) (first_in 0 (four_cc_of codes.MDAT) boxes)
  pub index : t.index ≡ found r.sidx file (first_in 0 (four_cc_of codes.SIDX) boxes)
  pub fragments : t.fragments.items ≡ map fragment_time moofs
  pub tracks : AreTracks r file moofs
      (movie_timescale (found reads_mvhd file (first_in 1 (four_cc_of codes.MVHD) (movie_in boxes)))) (traks boxes)
      t.tracks.items
  pub tags : t.tags.items ≡ tags_in r.item file (movie_in boxes)

-- those of a file
abbrev pub IsFile : InfoReadings → List ℕ → FileFacts → Type 0
IsFile r file t =
    (moofs : List MoofFragments) × AreFragments file (boxes_of file) moofs × IsFileBy r file (boxes_of file) moofs t
