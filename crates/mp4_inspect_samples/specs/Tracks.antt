-- The rows of the samples of a track of a movie.
use Rattle.std.specs.Prelude.{◌≡◌, ◌⊎◌, ℕ, ◌+◌, ◌-◌, ◌^◌, Bool, true, false, min, List, [], ◌∷◌, Result, Ok, Err, None}
use Rattle.std.specs.Prelude.{Some, option_map}
use Rattle.std.specs.declared.option.Option.{Option}
use Rattle.mp4_movie.specs.Ends.{end_of}
use Rattle.mp4_movie.specs.Fragments.{IsFragmentOf, piece_of}
use Rattle.mp4_movie.specs.Problems.{Problem, IsErrorOf}
use Rattle.mp4_movie.specs.Tables.{AreTablesOf}
use Rattle.mp4_movie.specs.declared.error.BoxError.{BoxError}
use Rattle.mp4_movie.specs.declared.sample_boxes.SampleBoxes.{SampleBoxes}
use Rattle.mp4_movie.specs.declared.track_fragment.TrackFragment.{TrackFragment}
use Rattle.mp4_samples.specs.Disagreements.{Disagrees}
use Rattle.mp4_samples.specs.Edits.{AreEdits, EditList, Faults as EditFaults}
use Rattle.mp4_samples.specs.Samples.{AreConsistent, IsSample, sample_count}
use Rattle.mp4_samples.specs.declared.disagreement.Disagreement.{Disagreement}
use Rattle.mp4_samples.specs.declared.edit_fault.EditFault.{EditFault}
use Rattle.mp4_samples.specs.declared.fragment.Fragment.{Fragment}
use Rattle.mp4_samples.specs.declared.fragment_fault.FragmentFault.{FragmentFault}
use Rattle.mp4_samples.specs.declared.sample.Sample.{Sample}
use Rattle.mp4_samples.specs.declared.tables.Tables.{Tables}
use Rattle.mp4_walk.specs.declared.tree_box.TreeBox.{TreeBox}
use Rattle.mp4_inspect_samples.specs.EditParts.{AreEditParts, edits_by}
use Rattle.mp4_inspect_samples.specs.Listed.{EndsListed, samples_in, unlisted_of}
use Rattle.mp4_inspect_samples.specs.Row.{Labels}
use Rattle.mp4_inspect_samples.specs.Rows.{WritesFragment, WritesHeading, WritesRows, is_headed}
use Rattle.mp4_inspect_samples.specs.declared.choice.Choice.{Choice}
use Rattle.mp4_inspect_samples.specs.declared.edits.EditParts.{EditParts}
use Rattle.mp4_inspect_samples.specs.declared.fault.Fault.{Fault}
use Rattle.mp4_inspect_samples.specs.declared.fault.Fault.TheVariants as faults
use Rattle.mp4_inspect_samples.specs.declared.fault.TrackName.{TrackName}
use Rattle.mp4_inspect_samples.specs.declared.fault.TrackName.TheVariants as names
use Rattle.mp4_inspect_samples.specs.declared.fragments.TrackTraf.{TrackTraf}
use Rattle.mp4_inspect_samples.specs.declared.heading.Heading.{Heading}
use Rattle.mp4_inspect_samples.specs.declared.limit.Limit.{Limit}
use Rattle.mp4_inspect_samples.specs.declared.limit.Unlisted.{Unlisted}
use Rattle.mp4_inspect_samples.specs.declared.reached.Reached.{Reached}
use Rattle.mp4_inspect_samples.specs.declared.row_text.Form.{Form}
use Rattle.mp4_inspect_samples.specs.declared.rows.FragmentEnd.{FragmentEnd}

-- the track_ID in a name
abbrev pub id_of : TrackName → Option ℕ
id_of (names.Id id) = Some id
id_of (names.At _) = None

-- ---- the tables

-- nothing is written
abbrev pub WritesNothing : Bool → Bool → Option (List ℕ) → Option (List ℕ) → Type 0
WritesNothing follows is_followed old new = (is_followed ≡ follows) × (new ≡ old)

-- The heading of a track is appended, and then rows of the samples of these tables: all, or those before the first that
-- isn't listed. A fragment without a time begins at this time.
pub record WritesTables (tables : Tables) (time : ℕ) (limit : Limit) (form : Form) (labels : Labels)
    (follows is_followed : Bool) (old new : Option (List ℕ)) (reached : Reached) : Type 0 where
  pub mid : Option (List ℕ)
  pub heading : WritesHeading form old mid
  pub rows : WritesRows (IsSample tables) limit form labels 0 0 reached.count reached.empty
      (is_headed form follows) is_followed mid new
  pub next : Option Sample
  pub ends : EndsListed (IsSample tables) limit (sample_count tables) reached.count reached.empty next
  pub unlisted : reached.unlisted ≡ unlisted_of limit reached.count (sample_count tables) next
  pub time_is : reached.time ≡ time

-- These are written if the tables agree; the time is the end of their samples. Nothing is written if they disagree.
abbrev pub WritesAgreed : SampleBoxes → Tables → Limit → Form → Labels → Bool → Bool → Option (List ℕ)
    → Option (List ℕ) → Result Reached Fault → Type 0
WritesAgreed boxes tables limit form labels follows is_followed old new (Ok reached) =
    AreConsistent tables
    × WritesTables tables (end_of boxes.stts.entries) limit form labels follows is_followed old new reached
WritesAgreed boxes tables limit form labels follows is_followed old new (Err e) =
    (d : Disagreement) × (e ≡ faults.Tables d) × Disagrees tables d × WritesNothing follows is_followed old new

pub record WritesBoxes (boxes : SampleBoxes) (limit : Limit) (form : Form) (labels : Labels)
    (follows is_followed : Bool) (old new : Option (List ℕ)) (end : Result Reached Fault) : Type 0 where
  pub tables : Tables
  pub are : AreTablesOf boxes tables
  pub writes : WritesAgreed boxes tables limit form labels follows is_followed old new end

-- no rows
abbrev pub no_rows : Reached
no_rows = record { count = 0; time = 0; empty = 0; unlisted = None }

-- only the heading of a track
pub record WritesHeadingOnly (form : Form) (follows is_followed : Bool) (old new : Option (List ℕ))
    (end : Result Reached Fault) : Type 0 where
  pub heading : WritesHeading form old new
  pub after : is_followed ≡ is_headed form follows
  pub none : end ≡ Ok no_rows

-- The first rows of a track are those of its tables. Without tables there is only a heading, and nothing if they can't
-- be read.
abbrev pub WritesFirst : Limit → Form → Labels → Result (Option SampleBoxes) Problem → Bool → Bool → Option (List ℕ)
    → Option (List ℕ) → Result Reached Fault → Type 0
WritesFirst limit form labels (Err p) follows is_followed old new end =
    (e : BoxError) × (end ≡ Err (faults.Box e)) × IsErrorOf e p × WritesNothing follows is_followed old new
WritesFirst limit form labels (Ok None) follows is_followed old new end =
    WritesHeadingOnly form follows is_followed old new end
WritesFirst limit form labels (Ok (Some boxes)) follows is_followed old new end =
    WritesBoxes boxes limit form labels follows is_followed old new end

-- ---- the fragments

-- the samples of a track before the end of a fragment, as its tables and fragments count them
abbrev pub counted_through : TrackFragment → Reached → ℕ
counted_through x before = min (before.count + min (samples_in x.runs.items) (2 ^ 64 - 1)) (2 ^ 64 - 1)

abbrev pub reached_at : TrackFragment → Limit → Reached → FragmentEnd → Reached
reached_at x limit before end = record {
  count = end.count;
  time = end.time;
  empty = end.empty;
  unlisted = unlisted_of limit end.count (counted_through x before) end.unlisted;
}

-- a track ends at a fragment in which a sample has a fault
abbrev pub or_fault : ℕ → Reached → Option FragmentFault → Result Reached Fault
or_fault moof reached None = Ok reached
or_fault moof reached (Some e) = Err (faults.Fragment moof e)

abbrev pub reached_after : TrackFragment → Limit → Reached → FragmentEnd → Result Reached Fault
reached_after x limit before end = or_fault x.moof (reached_at x limit before end) end.fault

-- Rows of the samples of a fragment are appended after those of `before`: all, or those before the first that has a
-- fault or isn't listed.
pub record WritesTrackFragment (x : TrackFragment) (limit : Limit) (form : Form) (labels : Labels)
    (before : Reached) (follows is_followed : Bool) (old new : Option (List ℕ)) (end : Result Reached Fault)
    : Type 0 where
  pub f : Fragment
  pub is : IsFragmentOf (piece_of x) before.time f
  pub ended : FragmentEnd
  pub rows : WritesFragment f limit form labels before.count before.empty follows is_followed old new ended
  pub end_is : end ≡ reached_after x limit before ended

-- one more traf is counted, and not listed
abbrev pub with_more : Reached → Unlisted → ℕ → Reached
with_more r u count =
    record {
      count = r.count;
      time = r.time;
      empty = r.empty;
      unlisted = Some (record {
        sample = u.sample;
        listed = u.listed;
        length = u.length;
        more = min (u.more + count) (2 ^ 64 - 1);
      });
    }

-- the rows of a traf that is a fragment. If it is none, its track ends
abbrev pub WritesAnswer : Limit → Form → Labels → Result TrackFragment BoxError → Reached → Bool → Bool
    → Option (List ℕ) → Option (List ℕ) → Result Reached Fault → Type 0
WritesAnswer limit form labels (Ok x) before follows is_followed old new end =
    WritesTrackFragment x limit form labels before follows is_followed old new end
WritesAnswer limit form labels (Err e) before follows is_followed old new end =
    (end ≡ Err (faults.Box e)) × WritesNothing follows is_followed old new

-- after a sample that isn't listed, a traf is only counted
abbrev pub WritesNext : Limit → Form → Labels → TrackTraf → Option Unlisted → Reached → Bool → Bool
    → Option (List ℕ) → Option (List ℕ) → Result Reached Fault → Type 0
WritesNext limit form labels t None before follows is_followed old new end =
    WritesAnswer limit form labels t.fragment before follows is_followed old new end
WritesNext limit form labels t (Some u) before follows is_followed old new end =
    (end ≡ Ok (with_more before u t.samples)) × WritesNothing follows is_followed old new

-- after a fault of its track, a traf is nothing
abbrev pub WritesTraf : Limit → Form → Labels → TrackTraf → Result Reached Fault → Bool → Bool → Option (List ℕ)
    → Option (List ℕ) → Result Reached Fault → Type 0
WritesTraf limit form labels t (Ok before) follows is_followed old new end =
    WritesNext limit form labels t before.unlisted before follows is_followed old new end
WritesTraf limit form labels t (Err e) follows is_followed old new end =
    (end ≡ Err e) × WritesNothing follows is_followed old new

-- the rows of these trafs, one after the other
abbrev pub WritesTrafs : Limit → Form → Labels → List TrackTraf → Result Reached Fault → Bool → Bool
    → Option (List ℕ) → Option (List ℕ) → Result Reached Fault → Type 0
WritesTrafs limit form labels [] before follows is_followed old new end =
    (end ≡ before) × WritesNothing follows is_followed old new
WritesTrafs limit form labels (t ∷ ts) before follows is_followed old new end =
    (between : Bool) × (mid : Option (List ℕ)) × (next : Result Reached Fault)
    × WritesTraf limit form labels t before follows between old mid next
    × WritesTrafs limit form labels ts next between is_followed mid new end

-- ---- the track

-- the fault at the end of the rows of a track: a sample that isn't listed is one
abbrev pub fault_at_end : Result Reached Fault → Option Fault
fault_at_end (Ok reached) = option_map faults.Unlisted reached.unlisted
fault_at_end (Err e) = Some e

-- the rows of a track: those of its tables, and then those of its trafs, up to the first fault
pub record WritesTrack (limit : Limit) (form : Form) (labels : Labels) (trafs : List TrackTraf)
    (tables : Result (Option SampleBoxes) Problem) (follows is_followed : Bool) (old new : Option (List ℕ))
    (fault : Option Fault) : Type 0 where
  pub between : Bool
  pub mid : Option (List ℕ)
  pub first : Result Reached Fault
  pub last : Result Reached Fault
  pub writes_first : WritesFirst limit form labels tables follows between old mid first
  pub writes_trafs : WritesTrafs limit form labels trafs first between is_followed mid new last
  pub fault_is : fault ≡ fault_at_end last

-- what the rows of a track need besides its edit list: its samples, and what is asked for
pub record TrackInputs : Type 0 where
  pub limit : Limit
  pub form : Form
  pub choice : Choice
  pub name : TrackName
  pub timescale : Option ℕ
  pub trafs : List TrackTraf
  pub tables : Result (Option SampleBoxes) Problem

abbrev pub inputs_by : Limit → Form → Choice → Heading → List TrackTraf → Result (Option SampleBoxes) Problem
    → TrackInputs
inputs_by limit form choice heading trafs tables = record {
  limit = limit;
  form = form;
  choice = choice;
  name = heading.name;
  timescale = heading.timescale;
  trafs = trafs;
  tables = tables;
}

-- what the rows of a track have besides its samples
abbrev pub labels_for : TrackInputs → Option EditList → Labels
labels_for t edits = record {
  track = id_of t.name;
  clock = record { timescale = t.timescale; seconds = t.choice.seconds };
  edits = edits;
  sync = t.choice.sync;
}

-- the rows of a track with presentation times by this edit list, or without edits
abbrev pub WritesWith : TrackInputs → Option EditList → Bool → Bool → Option (List ℕ) → Option (List ℕ) → Option Fault
    → Type 0
WritesWith t edits follows is_followed old new fault =
    WritesTrack t.limit t.form (labels_for t edits) t.trafs t.tables follows is_followed old new fault

-- a track without rows has this fault
abbrev pub Stops : Fault → Bool → Bool → Option (List ℕ) → Option (List ℕ) → Option Fault → Type 0
Stops e follows is_followed old new fault = (fault ≡ Some e) × WritesNothing follows is_followed old new

-- the rows of a track by this edit list, if it can be used
abbrev pub WritesByList : TrackInputs → EditList → Bool → Bool → Option (List ℕ) → Option (List ℕ) → Option Fault
    → Type 0
WritesByList t l follows is_followed old new fault =
    (AreEdits l × WritesWith t (Some l) follows is_followed old new fault)
    ⊎ ((e : EditFault) × EditFaults l e × Stops (faults.Edits e) follows is_followed old new fault)

-- the rows of a track by its edit list, if that and the timescales can be read
abbrev pub WritesByParts : TrackInputs → Result EditParts BoxError → Bool → Bool → Option (List ℕ) → Option (List ℕ)
    → Option Fault → Type 0
WritesByParts t (Ok parts) follows is_followed old new fault =
    WritesByList t (edits_by parts) follows is_followed old new fault
WritesByParts t (Err e) follows is_followed old new fault = Stops (faults.Box e) follows is_followed old new fault

-- The rows of a track, with presentation times by its edit list if those are asked for. `movie` begins with the boxes
-- inside the moov, and `trak` with those inside the trak. `media` is the timescale of its media.
abbrev pub WritesTimed : Bool → List ℕ → List TreeBox → List TreeBox → Result ℕ BoxError → TrackInputs → Bool → Bool
    → Option (List ℕ) → Option (List ℕ) → Option Fault → Type 0
WritesTimed false file movie trak media t follows is_followed old new fault =
    WritesWith t None follows is_followed old new fault
WritesTimed true file movie trak media t follows is_followed old new fault =
    (parts : Result EditParts BoxError) × AreEditParts file movie trak media parts
    × WritesByParts t parts follows is_followed old new fault
