-- The faults of the samples of a file: those of the tables of its tracks, then those of its fragments, in the order of
-- the file. All samples that are looked at have no more bytes than the file.
use Rattle.std.specs.Prelude.{◌≡◌, ℕ, Bool, true, false, List, [], ◌∷◌, ◌++◌, length, option_map}
use Rattle.std.specs.Prelude.{unwrap_or, Result, Ok, Err, None, Some, if◌then◌else◌}
use Rattle.std.specs.BTreeMap.{get}
use Rattle.std.specs.Ordering.{nat_cmp}
use Rattle.std.specs.declared.option.Option.{Option}
use Rattle.mp4_check.specs.FaultValues.{Value}
use Rattle.mp4_check.specs.Faults.{WritesCheck}
use Rattle.mp4_check.specs.FragmentFaults.{in_that, trafs_of}
use Rattle.mp4_check.specs.Headers.{track_header}
use Rattle.mp4_check.specs.Lines.{Writes}
use Rattle.mp4_content.specs.Paths.{next}
use Rattle.mp4_check.specs.References.{is_away}
use Rattle.mp4_check.specs.TrackFaults.{has_track_id, in_this, table_position}
use Rattle.mp4_check.specs.TrackTables.{sample_table}
use Rattle.mp4_check.specs.declared.fault.What.{What}
use Rattle.mp4_check.specs.declared.fault.What.TheVariants as what
use Rattle.mp4_check.specs.declared.lines.Form.{Form}
use Rattle.mp4_check.specs.declared.lines.Told.{Told}
use Rattle.mp4_check.specs.declared.sample_faults.Kept.{Kept}
use Rattle.mp4_check.specs.declared.sample_faults.SampleFaults.{SampleFaults}
use Rattle.mp4_extra_samples.specs.declared.sidx.Sidx.{Sidx}
use Rattle.mp4_flat.specs.declared.trex.TrexBox.{TrexBox}
use Rattle.mp4_frame.specs.FourCC.{four_cc_of}
use Rattle.mp4_frame.specs.Reading.{Reading}
use Rattle.mp4_frame.specs.declared.box_type.BoxType.{BoxType}
use Rattle.mp4_frame.specs.declared.codes.TheConstants as codes
use Rattle.mp4_movie.specs.Defaults.{defaults_in, trexes}
use Rattle.mp4_movie.specs.Fragments.{IsEnd, IsFragmentOf, Piece, fragment_at}
use Rattle.mp4_movie.specs.Levels.{Found, after_of, all_in}
use Rattle.mp4_movie.specs.Movies.{traks}
use Rattle.mp4_check.specs.Kinds.{are_known, kinds_in}
use Rattle.mp4_check.specs.Looked.{AreOfFragment, LooksIf, nothing}
use Rattle.mp4_check.specs.TrackSamples.{LooksTrack}
use Rattle.mp4_check.specs.declared.samples.kind.Kind.{Kind}
use Rattle.mp4_check.specs.declared.samples.looked.Looked.{Looked}
use Rattle.mp4_check.specs.declared.samples.looked.SampleFault.{SampleFault}
use Rattle.mp4_check.specs.declared.samples.looked.Wrong.{Wrong}
use Rattle.mp4_samples.specs.Fragments.{IsFragmentSample}
use Rattle.mp4_samples.specs.declared.fragment.Fragment.{Fragment}
use Rattle.mp4_walk.specs.FileBoxes.{boxes_of}
use Rattle.mp4_walk.specs.declared.tree_box.TreeBox.{TreeBox}

-- ---- faults of samples that were looked at

abbrev pub faults_from : ℕ → ℕ → Option SampleFault → Option SampleFaults
faults_from all count None = None
faults_from all count (Some first) = Some (record { all = all; count = count; first = first })

abbrev pub faults_by : ℕ → Wrong → Option SampleFaults
faults_by all w = faults_from all w.count w.first

abbrev pub units_what : Looked → Option What
units_what l = option_map what.Units (faults_by l.all l.units)

abbrev pub frames_what : Looked → Option What
frames_what l = option_map what.Frames (faults_by l.all l.frames)

-- the faults of the samples of the `stbl` at a position in track n
abbrev pub table_looked : ℕ → ℕ → Looked → List Value
table_looked n position l =
    let these = codes.MDIA ∷ codes.MINF ∷ codes.STBL ∷ [] in
    in_this n these position (units_what l) ++ in_this n these position (frames_what l)

-- the faults of the samples of the traf at a position, which is traf n of moof m
abbrev pub traf_looked : ℕ → ℕ → ℕ → Looked → List Value
traf_looked m n position l = in_that m n [] position (units_what l) ++ in_that m n [] position (frames_what l)

-- ---- the tables of tracks

-- the kinds of the samples of a track, whose media data are in no other file
abbrev pub track_kinds : List ℕ → List TreeBox → List Kind
track_kinds file trak = if is_away file trak then [] else kinds_in file (after_of (sample_table trak))

-- the faults of track n are appended to the old ones
pub record TrackLooked (file : List ℕ) (n : ℕ) (trak : List TreeBox) (left : ℕ) (old new : List Value)
    (after : ℕ) : Type 0 where
  pub looked : Looked
  pub looks : LooksTrack file (after_of (sample_table trak)) (track_kinds file trak) left looked
  pub faults : new ≡ old ++ table_looked n (table_position (sample_table trak)) looked
  pub left_is : after ≡ looked.left

-- the faults of these tracks, of which the first has number n, are appended to the old ones
abbrev pub AreTracksLooked : List ℕ → ℕ → List Found → ℕ → List Value → List Value → ℕ → Type 0
AreTracksLooked file n [] left old new after = (new ≡ old) × (after ≡ left)
AreTracksLooked file n (f ∷ fs) left old new after =
    (mid : List Value) × (rest : ℕ) × TrackLooked file n f.after left old mid rest
    × AreTracksLooked file (next n) fs rest mid new after

-- the kinds of the first of these tracks that has this track_ID
abbrev pub kinds_for : List ℕ → ℕ → List Found → Option (List Kind)
kinds_for file id [] = None
kinds_for file id (f ∷ fs) =
    if has_track_id id (track_header file f.after) then Some (track_kinds file f.after) else kinds_for file id fs

-- ---- fragments

abbrev pub ok_of : {A E : Type 0} → Result A E → Option A
ok_of (Ok v) = Some v
ok_of (Err e) = None

-- the samples of a traf are looked at, if it is a fragment. Tracks have samples of these kinds
abbrev pub LooksPiece : List ℕ → (ℕ → List Kind) → ℕ → Option Piece → Looked → Type 0
LooksPiece file kinds left None looked = looked ≡ nothing left
LooksPiece file kinds left (Some x) looked =
    (f : Fragment) × IsFragmentOf x 0 f
    × LooksIf (are_known (kinds x.header.track_id)) (IsFragmentSample f) (AreOfFragment f) file
    (kinds x.header.track_id) left looked

-- the end of the data of a traf, if it is a fragment
abbrev pub EndsPiece : Option Piece → Option ℕ → Type 0
EndsPiece None end = end ≡ None
EndsPiece (Some x) end = (f : Fragment) × IsFragmentOf x 0 f × IsEnd f end

-- the faults of traf n of moof m, which is at a position, are appended to the old ones
pub record TrafLooked (file : List ℕ) (defaults : ℕ → Option TrexBox) (kinds : ℕ → List Kind) (m n moof : ℕ)
    (end : Option ℕ) (x : Found) (left : ℕ) (old new : List Value) (next_end : Option ℕ) (after : ℕ) : Type 0 where
  pub looked : Looked
  pub looks : LooksPiece file kinds left (ok_of (fragment_at file defaults moof end x.after)) looked
  pub ends : EndsPiece (ok_of (fragment_at file defaults moof end x.after)) next_end
  pub faults : new ≡ old ++ traf_looked m n x.box.position looked
  pub left_is : after ≡ looked.left

-- the faults of these trafs, of which the first has number n, are appended to the old ones
abbrev pub AreTrafsLooked : List ℕ → (ℕ → Option TrexBox) → (ℕ → List Kind) → ℕ → ℕ → ℕ → Option ℕ → List Found → ℕ
    → List Value → List Value → ℕ → Type 0
AreTrafsLooked file defaults kinds m n moof end [] left old new after = (new ≡ old) × (after ≡ left)
AreTrafsLooked file defaults kinds m n moof end (x ∷ xs) left old new after =
    (mid : List Value) × (next_end : Option ℕ) × (rest : ℕ)
    × TrafLooked file defaults kinds m n moof end x left old mid next_end rest
    × AreTrafsLooked file defaults kinds m (next n) moof next_end xs rest mid new after

-- the faults of these moofs, of which the first has number m, are appended to the old ones
abbrev pub AreMoofsLooked : List ℕ → (ℕ → Option TrexBox) → (ℕ → List Kind) → ℕ → List Found → ℕ → List Value
    → List Value → ℕ → Type 0
AreMoofsLooked file defaults kinds m [] left old new after = (new ≡ old) × (after ≡ left)
AreMoofsLooked file defaults kinds m (x ∷ xs) left old new after =
    (mid : List Value) × (rest : ℕ)
    × AreTrafsLooked file defaults kinds m 0 x.box.position (Some x.box.position) (trafs_of x) left old mid rest
    × AreMoofsLooked file defaults kinds (next m) xs rest mid new after

-- ---- the file

-- the kinds of the samples of the first track with this track_ID
abbrev pub kinds_in_file : List ℕ → List TreeBox → ℕ → List Kind
kinds_in_file file boxes id = unwrap_or (kinds_for file id (traks boxes)) []

-- the faults of the samples of a file with these boxes
pub record AreSampleFaults (file : List ℕ) (boxes : List TreeBox) (values : List Value) : Type 0 where
  pub mid : List Value
  pub left : ℕ
  pub after : ℕ
  pub tracks : AreTracksLooked file 0 (traks boxes) (length file) [] mid left
  pub moofs : AreMoofsLooked file (λ id. defaults_in file id (trexes boxes)) (kinds_in_file file boxes) 0
      (all_in 0 (four_cc_of codes.MOOF) boxes) left mid values after

-- these faults are written, and no others
pub record WritesSamples (form : Form) (before : Told) (file : List ℕ) (boxes : List TreeBox)
    (old new : Option (List ℕ)) (now : Told) : Type 0 where
  pub values : List Value
  pub are : AreSampleFaults file boxes values
  pub writes : Writes form before values old new now

-- the faults of a file are written, and then those of its samples
pub record WritesBoth {A : Type 0} (known : BoxType → Bool) (reading : BoxType → List ℕ → ℕ → ℕ → Reading A)
    (reads_sidx : List ℕ → ℕ → ℕ → Reading Sidx) (form : Form) (any : Bool) (file : List ℕ)
    (old new : Option (List ℕ)) (told : Told) : Type 0 where
  pub between : Told
  pub mid : Option (List ℕ)
  pub faults : WritesCheck known reading reads_sidx form any file old mid between
  pub samples : WritesSamples form between file (boxes_of file) mid new told

-- these are written, or only the faults of the file
abbrev pub WritesAll : {A : Type 0} → (BoxType → Bool) → (BoxType → List ℕ → ℕ → ℕ → Reading A)
    → (List ℕ → ℕ → ℕ → Reading Sidx) → Bool → Form → Bool → List ℕ → Option (List ℕ) → Option (List ℕ) → Told
    → Type 0
WritesAll known reading reads_sidx false form any file old new told =
    WritesCheck known reading reads_sidx form any file old new told
WritesAll known reading reads_sidx true form any file old new told =
    WritesBoth known reading reads_sidx form any file old new told

-- ---- what is stored

-- the kinds are stored of the first of these tracks with each track_ID
abbrev pub AreKinds : List ℕ → List Found → Kept → Type 0
AreKinds file fs kept = (id : ℕ) → option_map (λ v. v.items) (get nat_cmp kept.kinds id) ≡ kinds_for file id fs

-- the stored kinds of the track with this track_ID
abbrev pub kinds_at : Kept → ℕ → List Kind
kinds_at kept id = unwrap_or (option_map (λ v. v.items) (get nat_cmp kept.kinds id)) []
