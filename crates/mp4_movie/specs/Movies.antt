-- The movie of a file: its tracks, and what the boxes of a track hold.
use Rattle.std.specs.Prelude.{◌≡◌, ℕ, ◌+◌, ◌-◌, ◌==◌, Bool, false, List, [], ◌∷◌, map, drop, Result, Ok, Err, None}
use Rattle.std.specs.Prelude.{Some}
use Rattle.std.specs.Prelude.{IfSome, if◌then◌else◌}
use Rattle.std.specs.declared.option.Option.{Option}
use Rattle.mp4_flat.specs.Boxes.{reads_mdhd, reads_tkhd}
use Rattle.mp4_frame.specs.FourCC.{four_cc_of}
use Rattle.mp4_frame.specs.declared.codes.TheConstants as codes
use Rattle.mp4_frame.specs.declared.four_cc.FourCC.{FourCC}
use Rattle.mp4_movie.specs.Levels.{Found, first_in, all_in, after_of}
use Rattle.mp4_movie.specs.Problems.{Problem, NoBox, ◌>>=◌}
use Rattle.mp4_movie.specs.Reads.{required}
use Rattle.mp4_movie.specs.Tables.{tables_in}
use Rattle.mp4_movie.specs.declared.places.TrakPlace.{TrakPlace}
use Rattle.mp4_movie.specs.declared.sample_boxes.SampleBoxes.{SampleBoxes}
use Rattle.mp4_text.specs.Boxes.{reads_hdlr}
use Rattle.mp4_walk.specs.FileBoxes.{boxes_of}
use Rattle.mp4_walk.specs.declared.tree_box.TreeBox.{TreeBox}

-- the bytes of a source, if they are known, and its boxes in order
pub record MovieValue : Type 0 where
  pub bytes : Option (List ℕ)
  pub boxes : List TreeBox

-- The tracks of a movie, in the order of the file: each `trak` that is a child of the first `moov` (ISO/IEC 14496-12,
-- 8.2.1 and 8.3.1). A file has one `moov`. A `trak` in a second one is no track, as for other readers.
abbrev pub traks : List TreeBox → List Found
traks boxes = all_in 1 (four_cc_of codes.TRAK) (after_of (first_in 0 (four_cc_of codes.MOOV) boxes))

-- a track as a movie stores it: its `trak`, and the index of the box after that in the list of all boxes
abbrev pub found_at : List TreeBox → TrakPlace → Found
found_at boxes p = record { box = p.found; after = drop p.first boxes }

-- the stored boxes are those of the file, and the stored tracks are its tracks
pub record IsMovie (bytes : Option (List ℕ)) (boxes : List TreeBox) (places : List TrakPlace) : Type 0 where
  pub known : IfSome bytes (λ file. boxes ≡ boxes_of file)
  pub are : map (found_at boxes) places ≡ traks boxes

-- the boxes after the header of the first box of this code in a level, which is mandatory
abbrev pub opened : ℕ → Option Found → Result (List TreeBox) Problem
opened code None = Err (NoBox (four_cc_of code))
opened code (Some f) = Ok f.after

abbrev pub inside : ℕ → ℕ → List TreeBox → Result (List TreeBox) Problem
inside d code level = opened code (first_in d (four_cc_of code) level)

-- the track_ID of a track (8.3.2). `trak` begins with the boxes inside its `trak`
abbrev pub track_id : List ℕ → List TreeBox → Result ℕ Problem
track_id file trak = required reads_tkhd codes.TKHD file (first_in 2 (four_cc_of codes.TKHD) trak) >>= λ v. Ok
    v.track_id

-- the timescale of its media (8.4.2)
abbrev pub timescale : List ℕ → List TreeBox → Result ℕ Problem
timescale file trak =
    inside 2 codes.MDIA trak >>= λ mdia.
    required reads_mdhd codes.MDHD file (first_in 3 (four_cc_of codes.MDHD) mdia) >>= λ v. Ok v.timescale

-- the handler of its media (8.4.3)
abbrev pub handler : List ℕ → List TreeBox → Result FourCC Problem
handler file trak =
    inside 2 codes.MDIA trak >>= λ mdia.
    required reads_hdlr codes.HDLR file (first_in 3 (four_cc_of codes.HDLR) mdia) >>= λ v. Ok v.handler_type

-- the boxes after the header of its sample table (8.5.1)
abbrev pub sample_table : List TreeBox → Result (List TreeBox) Problem
sample_table trak = inside 2 codes.MDIA trak >>= λ mdia. inside 3 codes.MINF mdia >>= λ minf. inside 4 codes.STBL minf

-- its sample tables, if it has samples outside fragments
abbrev pub samples_of : List ℕ → List TreeBox → Result (Option SampleBoxes) Problem
samples_of file trak = sample_table trak >>= λ stbl. tables_in file stbl

-- the answer for the track of a number, by the boxes after the header of its trak; else there is no trak
abbrev pub of_track : {A : Type 0} → (List TreeBox → Result A Problem) → ℕ → List Found → Result A Problem
of_track read k [] = Err (NoBox (four_cc_of codes.TRAK))
of_track read k (f ∷ fs) = if k == 0 then read f.after else of_track read (k - 1) fs

abbrev pub is_id : ℕ → Result ℕ Problem → Bool
is_id id (Ok v) = v == id
is_id id (Err _) = false

abbrev pub has_id : List ℕ → ℕ → List TreeBox → Bool
has_id file id trak = is_id id (track_id file trak)

-- the number of the first track with this track_ID, if these are the tracks starting at number k. If two tracks have
-- one track_ID, the first counts. A track whose header can't be read has no track_ID
abbrev pub first_with : List ℕ → ℕ → ℕ → List Found → Option ℕ
first_with file id k [] = None
first_with file id k (f ∷ fs) = if has_id file id f.after then Some k else first_with file id (k + 1) fs
