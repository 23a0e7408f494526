-- The trafs of a file with the track_IDs of their tracks (ISO/IEC 14496-12, 8.8.6 and 8.8.7).
use Rattle.std.specs.Prelude.{◌≡◌, ℕ, ◌+◌, ◌-◌, ◌^◌, ◌==◌, Bool, false, List, [], ◌∷◌, ◌++◌, min, option_map}
use Rattle.std.specs.Prelude.{Result, Ok, Err, None, Some, if◌then◌else◌}
use Rattle.std.specs.BTreeMap.{get}
use Rattle.std.specs.List.{flat_map}
use Rattle.std.specs.Ordering.{nat_cmp}
use Rattle.std.specs.declared.option.Option.{Option}
use Rattle.mp4_frame.specs.FourCC.{four_cc_of}
use Rattle.mp4_frame.specs.Reading.{Fault}
use Rattle.mp4_frame.specs.declared.codes.TheConstants as codes
use Rattle.mp4_movie.specs.Levels.{Found, all_in, first_in}
use Rattle.mp4_movie.specs.Reads.{own_reading}
use Rattle.mp4_movie.specs.declared.error.BoxError.{BoxError}
use Rattle.mp4_movie.specs.declared.error.BoxError.TheVariants as errors
use Rattle.mp4_movie.specs.declared.moof.MoofFragments.{MoofFragments}
use Rattle.mp4_movie.specs.declared.track_fragment.TrackFragment.{TrackFragment}
use Rattle.mp4_tables.specs.Boxes.{reads_tfhd, reads_trun}
use Rattle.mp4_tables.specs.declared.tfhd.TfhdBox.{TfhdBox}
use Rattle.mp4_tables.specs.declared.trun.TrunBox.{TrunBox}
use Rattle.mp4_walk.specs.declared.tree_box.TreeBox.{TreeBox}
use Rattle.mp4_inspect_samples.specs.Listed.{samples_in}
use Rattle.mp4_inspect_samples.specs.declared.fault.Fault.TheVariants as faults
use Rattle.mp4_inspect_samples.specs.declared.fault.TrackFault.{TrackFault}
use Rattle.mp4_inspect_samples.specs.declared.fragments.Fragments.{Fragments}
use Rattle.mp4_inspect_samples.specs.declared.fragments.TrackTraf.{TrackTraf}

-- a traf: the position of its moof, its track_ID if that is known, the number of its samples, and the fragment that it
-- is, or why it is none
pub record Traf : Type 0 where
  pub moof : ℕ
  pub id : Option ℕ
  pub stored : TrackTraf

abbrev pub id_in : Result TfhdBox Fault → Option ℕ
id_in (Ok h) = Some h.track_id
id_in (Err _) = None

-- the track_ID in a header, if that can be read
abbrev pub header_id : List ℕ → Option Found → Option ℕ
header_id file None = None
header_id file (Some f) = id_in (own_reading reads_tfhd file f.box).outcome

abbrev pub count_in : Result TrunBox Fault → ℕ
count_in (Ok run) = run.sample_count
count_in (Err _) = 0

-- the samples that these runs count. A run with a fault counts none
abbrev pub counted : List ℕ → List Found → ℕ
counted file [] = 0
counted file (f ∷ fs) = count_in (own_reading reads_trun file f.box).outcome + counted file fs

-- the track_ID of the traf whose boxes `traf` begins with: that of the fragment, or of the header if it is none
abbrev pub id_of_traf : List ℕ → List TreeBox → Result TrackFragment BoxError → Option ℕ
id_of_traf file traf (Ok x) = Some x.header.track_id
id_of_traf file traf (Err _) = header_id file (first_in 2 (four_cc_of codes.TFHD) traf)

-- the samples of a traf that is no fragment: none if a box in it has a fault
abbrev pub samples_without : List ℕ → List TreeBox → BoxError → ℕ
samples_without file traf (errors.Fault _ _ _) = 0
samples_without file traf _ = min (counted file (all_in 2 (four_cc_of codes.TRUN) traf)) (2 ^ 64 - 1)

abbrev pub samples_of_traf : List ℕ → List TreeBox → Result TrackFragment BoxError → ℕ
samples_of_traf file traf (Ok x) = min (samples_in x.runs.items) (2 ^ 64 - 1)
samples_of_traf file traf (Err e) = samples_without file traf e

abbrev pub stored_of : List ℕ → List TreeBox → Result TrackFragment BoxError → TrackTraf
stored_of file traf answer = record { samples = samples_of_traf file traf answer; fragment = answer }

abbrev pub traf_at : List ℕ → ℕ → List TreeBox → Result TrackFragment BoxError → Traf
traf_at file moof traf answer =
    record { moof = moof; id = id_of_traf file traf answer; stored = stored_of file traf answer }

-- the trafs of a moof, by the answers of the movie for them
abbrev pub trafs_in : List ℕ → ℕ → List Found → List (Result TrackFragment BoxError) → List Traf
trafs_in file moof [] rs = []
trafs_in file moof (f ∷ fs) [] = []
trafs_in file moof (f ∷ fs) (r ∷ rs) = traf_at file moof f.after r ∷ trafs_in file moof fs rs

abbrev pub trafs_of_moof : List ℕ → Found → MoofFragments → List Traf
trafs_of_moof file m x = trafs_in file x.position (all_in 1 (four_cc_of codes.TRAF) m.after) x.fragments.items

abbrev pub trafs_of_moofs : List ℕ → List Found → List MoofFragments → List Traf
trafs_of_moofs file [] xs = []
trafs_of_moofs file (m ∷ ms) [] = []
trafs_of_moofs file (m ∷ ms) (x ∷ xs) = trafs_of_moof file m x ++ trafs_of_moofs file ms xs

-- the trafs of a file with these boxes, in order
abbrev pub trafs_of : List ℕ → List TreeBox → List MoofFragments → List Traf
trafs_of file boxes moofs = trafs_of_moofs file (all_in 0 (four_cc_of codes.MOOF) boxes) moofs

abbrev pub is_id : ℕ → Option ℕ → Bool
is_id q None = false
is_id q (Some id) = id == q

-- the trafs of the track with this track_ID, in order
abbrev pub with_id : ℕ → List Traf → List TrackTraf
with_id q [] = []
with_id q (x ∷ xs) = if is_id q x.id then x.stored ∷ with_id q xs else with_id q xs

-- the fault of a traf without a track_ID
abbrev pub unknown_fault : ℕ → Option ℕ → Result TrackFragment BoxError → List TrackFault
unknown_fault moof (Some id) answer = []
unknown_fault moof None (Ok x) = []
unknown_fault moof None (Err e) = record { track = None; fault = faults.Header moof e } ∷ []

abbrev pub header_faults : List Traf → List TrackFault
header_faults trafs = flat_map (λ (x : Traf). unknown_fault x.moof x.id x.stored.fragment) trafs

-- what is stored for a track_ID
abbrev pub stored_for : Fragments → ℕ → Option (List TrackTraf)
stored_for f q = option_map (λ v. v.items) (get nat_cmp f.by_track q)

abbrev pub list_of : Option (List TrackTraf) → List TrackTraf
list_of None = []
list_of (Some xs) = xs

-- what is stored with more trafs; nothing if there are none
abbrev pub added : Option (List TrackTraf) → List TrackTraf → Option (List TrackTraf)
added o [] = o
added o (x ∷ xs) = Some (list_of o ++ x ∷ xs)

-- these trafs are stored after those before, and the faults of those without a track_ID are appended
pub record Enters (trafs : List Traf) (f g : Fragments) (old new : List TrackFault) : Type 0 where
  pub stored : (q : ℕ) → stored_for g q ≡ added (stored_for f q) (with_id q trafs)
  pub told : new ≡ old ++ header_faults trafs

-- the trafs of each track_ID are stored
abbrev pub AreStored : List Traf → Fragments → Type 0
AreStored trafs f = (q : ℕ) → stored_for f q ≡ added None (with_id q trafs)
