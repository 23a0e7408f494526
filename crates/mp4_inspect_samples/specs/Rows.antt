-- The rows of samples, one after the other. The bytes that a writer has are `Some` if they are known. Nothing is said
-- of them if they are not.
use Rattle.std.specs.Prelude.{◌≡◌, ◌≢◌, ℕ, ◌+◌, ◌||◌, not, map, if◌then◌else◌, Bool, true, List, [], ◌∷◌, ◌++◌, length}
use Rattle.std.specs.Prelude.{take, codes, ⊤, None, Some}
use Rattle.std.specs.declared.option.Option.{Option}
use Rattle.std.specs.Io.KnownBytes.{Appends}
use Rattle.mp4_samples.specs.Edits.{EditList}
use Rattle.mp4_samples.specs.FragmentGives.{sample_total}
use Rattle.mp4_samples.specs.Fragments.{IsFragmentSample, Faults, sample_time}
use Rattle.mp4_samples.specs.declared.fragment.Fragment.{Fragment}
use Rattle.mp4_samples.specs.declared.fragment_fault.FragmentFault.{FragmentFault}
use Rattle.mp4_samples.specs.declared.sample.Sample.{Sample}
use Rattle.mp4_inspect_samples.specs.Listed.{AreListed, EndsListed, empty_at_end}
use Rattle.mp4_inspect_samples.specs.Row.{IsShown, Labels, row_of}
use Rattle.mp4_inspect_samples.specs.RowText.{row_text}
use Rattle.mp4_inspect_samples.specs.declared.limit.Limit.{Limit}
use Rattle.mp4_inspect_samples.specs.declared.row.Shown.{Shown}
use Rattle.mp4_inspect_samples.specs.declared.row_text.Form.{Form}
use Rattle.mp4_inspect_samples.specs.declared.row_text.Form.TheVariants as forms
use Rattle.mp4_inspect_samples.specs.declared.rows.FragmentEnd.{FragmentEnd}

-- a sample, and when it is presented
pub record Entry : Type 0 where
  pub sample : Sample
  pub shown : Shown

-- these are sample k and those after it, and when they are presented
abbrev pub Follow : (ℕ → Sample → Type 0) → Option EditList → ℕ → List Entry → Type 0
Follow Is edits k [] = ⊤
Follow Is edits k (x ∷ xs) = Is k x.sample × IsShown edits x.sample x.shown × Follow Is edits (k + 1) xs

abbrev pub samples_of : List Entry → List Sample
samples_of xs = map (λ (x : Entry). x.sample) xs

-- a sample has a row: each one, or each sync sample
abbrev pub has_row : Labels → Sample → Bool
has_row labels s = not labels.sync || s.is_sync

-- the row of a sample with this number, if it has one
abbrev pub entry_text : Form → Labels → Bool → ℕ → Sample → Shown → List ℕ
entry_text form labels follows number s t =
    if has_row labels s then row_text form follows (row_of labels number s t) else []

-- the rows of samples of a track, of which n come before them
abbrev pub rows_text : Form → Labels → Bool → ℕ → List Entry → List ℕ
rows_text form labels follows n [] = []
rows_text form labels follows n (x ∷ xs) =
    entry_text form labels follows (n + 1) x.sample x.shown
    ++ rows_text form labels (follows || has_row labels x.sample) (n + 1) xs

-- whether something is written after these rows
abbrev pub is_after : Labels → Bool → List Entry → Bool
is_after labels follows [] = follows
is_after labels follows (x ∷ xs) = is_after labels (follows || has_row labels x.sample) xs

-- the text before the rows of a file, and after them
abbrev pub front_text : Form → List ℕ
front_text forms.Text = []
front_text forms.Csv = codes
    "track,number,offset,size,decode_time,presentation_time,duration,sync,description,timescale\n"
front_text forms.Json = codes "["

abbrev pub end_text : Form → List ℕ
end_text forms.Json = codes "\n]\n"
end_text _ = []

-- a beginning of the text is appended
pub record Begins (old new : Option (List ℕ)) (text : List ℕ) : Type 0 where
  pub count : ℕ
  pub bytes : Appends old new (take count text)

-- the rows of the first m samples of a track are appended, each of which is listed. n samples come before them, the
-- last `empty` of which have no bytes; and the last `empty_end` up to sample m have none
pub record WritesRows (Is : ℕ → Sample → Type 0) (limit : Limit) (form : Form) (labels : Labels)
    (n empty m empty_end : ℕ) (follows is_followed : Bool) (old new : Option (List ℕ)) : Type 0 where
  pub entries : List Entry
  pub are : Follow Is labels.edits 0 entries
  pub listed : AreListed limit empty (samples_of entries)
  pub emptied : empty_end ≡ empty_at_end empty (samples_of entries)
  pub count : length entries ≡ m
  pub after : is_followed ≡ is_after labels follows entries
  pub bytes : Appends old new (rows_text form labels follows n entries)

-- a beginning of the rows of the first samples of a track is appended, each of which is listed
pub record BeginsRows (Is : ℕ → Sample → Type 0) (limit : Limit) (form : Form) (labels : Labels) (n empty : ℕ)
    (follows : Bool) (old new : Option (List ℕ)) : Type 0 where
  pub entries : List Entry
  pub are : Follow Is labels.edits 0 entries
  pub listed : AreListed limit empty (samples_of entries)
  pub bytes : Begins old new (rows_text form labels follows n entries)

-- a fragment ends after m samples, or the next one isn't listed or has a fault
abbrev pub EndsAfter : Fragment → Limit → ℕ → ℕ → Option Sample → Option FragmentFault → Type 0
EndsAfter f limit m empty unlisted None = EndsListed (IsFragmentSample f) limit (sample_total f) m empty unlisted
EndsAfter f limit m empty unlisted (Some fault) = (unlisted ≡ None) × Faults f m fault

-- the time at which the last sample of a fragment ends
abbrev pub end_time : Fragment → ℕ
end_time f = sample_time f (length f.runs.now) 0

-- the rows of the samples of a fragment are appended, all of them or those before the first that isn't listed or has a
-- fault
pub record WritesFragment (f : Fragment) (limit : Limit) (form : Form) (labels : Labels) (n empty : ℕ)
    (follows is_followed : Bool) (old new : Option (List ℕ)) (end : FragmentEnd) : Type 0 where
  pub samples : ℕ
  pub count : end.count ≡ n + samples
  pub ends : EndsAfter f limit samples end.empty end.unlisted end.fault
  pub rows : WritesRows (IsFragmentSample f) limit form labels n empty samples end.empty follows is_followed old new
  pub time : end.unlisted ≡ None → end.fault ≡ None → end.time ≡ end_time f

-- whether rows follow something, after the heading of a track: as text they follow the heading
abbrev pub is_headed : Form → Bool → Bool
is_headed forms.Text follows = true
is_headed _ follows = follows

-- a heading is appended, and none unless rows are text
pub record WritesHeading (form : Form) (old new : Option (List ℕ)) : Type 0 where
  pub text : List ℕ
  pub none : form ≢ forms.Text → text ≡ []
  pub bytes : Appends old new text
