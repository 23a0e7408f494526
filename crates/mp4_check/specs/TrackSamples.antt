-- The samples of the tables of a track.
use Rattle.std.specs.Prelude.{◌≡◌, ◌⊎◌, ℕ, Bool, true, false, List, Result, Ok, Err, None, Some}
use Rattle.std.specs.declared.option.Option.{Option}
use Rattle.mp4_movie.specs.Problems.{Problem}
use Rattle.mp4_movie.specs.Tables.{AreTablesOf, tables_in}
use Rattle.mp4_movie.specs.declared.sample_boxes.SampleBoxes.{SampleBoxes}
use Rattle.mp4_check.specs.Kinds.{are_known}
use Rattle.mp4_check.specs.Looked.{Looks, nothing}
use Rattle.mp4_check.specs.declared.samples.kind.Kind.{Kind}
use Rattle.mp4_check.specs.declared.samples.looked.Looked.{Looked}
use Rattle.mp4_samples.specs.Samples.{AreConsistent, IsSample, sample_count}
use Rattle.mp4_samples.specs.declared.tables.Tables.{Tables}
use Rattle.mp4_walk.specs.declared.tree_box.TreeBox.{TreeBox}

-- the samples of tables that agree are looked at
pub record LooksAgreed (file : List ℕ) (ks : List Kind) (left : ℕ) (t : Tables) (after : Looked) : Type 0 where
  pub agree : AreConsistent t
  pub looks : Looks (IsSample t) (λ m. m ≡ sample_count t) file ks (nothing left) after

-- tables that disagree have no samples
pub record LooksNowhere (left : ℕ) (t : Tables) (after : Looked) : Type 0 where
  pub disagree : ¬ AreConsistent t
  pub none : after ≡ nothing left

abbrev pub LooksTables : List ℕ → List Kind → ℕ → Tables → Looked → Type 0
LooksTables file ks left t after = LooksAgreed file ks left t after ⊎ LooksNowhere left t after

abbrev pub LooksBoxes : List ℕ → List Kind → ℕ → SampleBoxes → Looked → Type 0
LooksBoxes file ks left boxes after = (t : Tables) × AreTablesOf boxes t × LooksTables file ks left t after

-- tables that are missing or have a fault have no samples
abbrev pub LooksRead : List ℕ → List Kind → ℕ → Result (Option SampleBoxes) Problem → Looked → Type 0
LooksRead file ks left (Ok (Some boxes)) after = LooksBoxes file ks left boxes after
LooksRead file ks left (Ok None) after = after ≡ nothing left
LooksRead file ks left (Err _) after = after ≡ nothing left

abbrev pub LooksTrackIf : Bool → List ℕ → List TreeBox → List Kind → ℕ → Looked → Type 0
LooksTrackIf false file stbl ks left after = after ≡ nothing left
LooksTrackIf true file stbl ks left after = LooksRead file ks left (tables_in file stbl) after

-- the samples of the tables in an `stbl` are looked at, if there is a rule about samples of one of these kinds
abbrev pub LooksTrack : List ℕ → List TreeBox → List Kind → ℕ → Looked → Type 0
LooksTrack file stbl ks left after = LooksTrackIf (are_known ks) file stbl ks left after
