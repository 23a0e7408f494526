-- A file that keeps the media of another, by the origin of its bytes: what the checker decides.
use Rattle.std.specs.Prelude.{ℕ, ◌≡◌, ◌<◌, List, None, Some, Ok, Result}
use Rattle.std.specs.declared.option.Option.{Option}
use Rattle.mp4_frame.specs.declared.four_cc.FourCC.{FourCC}
use Rattle.mp4_movie.specs.Descriptions.{descriptions_of}
use Rattle.mp4_movie.specs.Ends.{end_by}
use Rattle.mp4_movie.specs.Movies.{handler, samples_of, timescale, track_id}
use Rattle.mp4_movie.specs.Tables.{AreTablesOf}
use Rattle.mp4_movie.specs.declared.error.BoxError.{BoxError}
use Rattle.mp4_movie.specs.declared.info.TrackInfo.{TrackInfo}
use Rattle.mp4_movie.specs.declared.sample_boxes.SampleBoxes.{SampleBoxes}
use Rattle.mp4_movie.specs.declared.track_fragment.TrackFragment.{TrackFragment}
use Rattle.mp4_remux.specs.declared.pieces.piece.Piece.{Piece}
use Rattle.mp4_samples.specs.declared.tables.Tables.{Tables}
use Rattle.mp4_remux.specs.Kept.{KeepsSamples}
use Rattle.mp4_remux.specs.Told.{AreTables, IsTeller, IsTold, at_track, count}
use Rattle.mp4_remux.specs.Whole.{SameAnswer, track_count}
use Rattle.mp4_remux.specs.declared.teller.Teller.{Teller}

-- the tables are those of the boxes; or there are neither
abbrev pub AreBorrowed : Option SampleBoxes → Option Tables → Type 0
AreBorrowed None None = Unit {0}
AreBorrowed (Some v) (Some t) = AreTablesOf v t
AreBorrowed None (Some t) = ⊥
AreBorrowed (Some v) None = ⊥

-- the samples of these tables and fragments
pub record IsTellerOf (boxes : Option SampleBoxes) (fs : List TrackFragment) (m : Teller) : Type 0 where
  pub are_tables : AreTables boxes m.tables
  pub begin : m.begin ≡ end_by boxes
  pub fragments : m.fragments.now ≡ fs

-- the samples of these tables and fragments of both files are the same, by the pieces
pub record CarriesSamples (ps : List Piece) (v w : Option SampleBoxes) (fs gs : List TrackFragment) : Type 0 where
  pub before : Teller
  pub after : Teller
  pub is_before : IsTellerOf v fs before
  pub is_after : IsTellerOf w gs after
  pub keeps : KeepsSamples IsTold count IsTold count ps before after

-- the boxes of track n of both files, with these fragments
pub record CarriesBoxes (ps : List Piece) (B C : List ℕ) (n : ℕ) (fs gs : List TrackFragment) : Type 0 where
  pub stsd : SameAnswer descriptions_of B C n
  pub were : Option SampleBoxes
  pub are : Option SampleBoxes
  pub is_were : at_track samples_of B n ≡ Ok were
  pub is_are : at_track samples_of C n ≡ Ok are
  pub samples : CarriesSamples ps were are fs gs

-- both are this value
abbrev pub SameOk : {A : Type 0} → Result A BoxError → Result A BoxError → A → Type 0
SameOk a b v = (a ≡ Ok v) × (b ≡ Ok v)

-- both tracks have this track_ID, and the same timescale and handler type
pub record SameHeaders (a b : TrackInfo) (id : ℕ) : Type 0 where
  pub scale : ℕ
  pub handler_type : FourCC
  pub id_is : SameOk a.track_id b.track_id id
  pub scale_is : SameOk a.timescale b.timescale scale
  pub handler_is : SameOk a.handler b.handler handler_type

-- track n is kept
pub record CarriesTrack (ps : List Piece) (B C : List ℕ) (n : ℕ) : Type 0 where
  pub id : SameAnswer track_id B C n
  pub scale : SameAnswer timescale B C n
  pub handler_type : SameAnswer handler B C n
  pub stsd : SameAnswer descriptions_of B C n
  pub before : Teller
  pub after : Teller
  pub is_before : IsTeller B n before
  pub is_after : IsTeller C n after
  pub keeps : KeepsSamples IsTold count IsTold count ps before after

-- all tracks are kept
pub record CarriesMedia (ps : List Piece) (B C : List ℕ) : Type 0 where
  pub counted : track_count C ≡ track_count B
  pub tracks : (n : ℕ) → n < track_count B → CarriesTrack ps B C n
