-- The rows for C of the faults of a file, and the texts of their paths and words. Tests compare the words.
use Rattle.std.specs.Prelude.{◌≡◌, ℕ, ◌+◌, ◌<◌, ◌==◌, ◌⊎◌, Bool, List, [], ◌∷◌, ◌++◌, length, None, Some}
use Rattle.std.specs.Prelude.{if◌then◌else◌}
use Rattle.std.specs.declared.option.Option.{Option}
use Rattle.mp4_c.specs.TextParts.{part_at}
use Rattle.mp4_c.specs.declared.file_faults.FaultRow.{FaultRow}
use Rattle.mp4_c.specs.declared.file_faults.FaultTable.{FaultTable}
use Rattle.mp4_c.specs.declared.file_faults.FoundFaults.{FoundFaults}
use Rattle.mp4_c_boxes.specs.Calls.{Fills, IsFilled}
use Rattle.mp4_c_boxes.specs.declared.status.TheConstants.{OK, NO_ROOM, OUT_OF_MEMORY}
use Rattle.mp4_check.specs.Codes.{code_of, severity_of, word_of}
use Rattle.mp4_check.specs.FaultValues.{Value}
use Rattle.mp4_check.specs.Faults.{faults_of}
use Rattle.mp4_content.specs.PathTexts.{path_shown}
use Rattle.mp4_check.specs.declared.fault.Code.{Code}
use Rattle.mp4_check.specs.declared.fault.Code.TheVariants as c
use Rattle.mp4_check.specs.declared.fault.Severity.{Severity}
use Rattle.mp4_check.specs.declared.fault.Severity.TheVariants as severities
use Rattle.mp4_extra_samples.specs.declared.sidx.Sidx.{Sidx}
use Rattle.mp4_frame.specs.Reading.{Reading}
use Rattle.mp4_frame.specs.declared.box_type.BoxType.{BoxType}

-- the numbers of codes and severities, which never change
abbrev pub code_number : Code → ℕ
code_number c.NotMp4 = 1
code_number c.FileCut = 2
code_number c.BoxCut = 3
code_number c.BoxTooSmall = 4
code_number c.BoxInvalid = 5
code_number c.BoxRepeated = 6
code_number c.BoxMissing = 7
code_number c.SizesUnlisted = 8
code_number c.AvcWithoutSets = 9
code_number c.MovieMissing = 10
code_number c.TrackIdZero = 11
code_number c.TrackIdRepeated = 12
code_number c.TrackIdUnknown = 13
code_number c.TablesDisagree = 14
code_number c.ChunkOutsideMedia = 15
code_number c.ChunksOverlap = 16
code_number c.MediaDuration = 17
code_number c.TrackDuration = 18
code_number c.MovieDuration = 19
code_number c.RunOutsideMedia = 20
code_number c.DecodeTimeBack = 21
code_number c.IndexSizes = 22
code_number c.NalUnitsMisfit = 23
code_number c.PcmFramesCut = 24

abbrev pub severity_number : Severity → ℕ
severity_number severities.Failure = 1
severity_number severities.Warning = 2

-- the code with a number
abbrev pub later_code_at : ℕ → Option Code
later_code_at n =
    if n == 12 then Some c.TrackIdRepeated else
    if n == 13 then Some c.TrackIdUnknown else
    if n == 14 then Some c.TablesDisagree else
    if n == 15 then Some c.ChunkOutsideMedia else
    if n == 16 then Some c.ChunksOverlap else
    if n == 17 then Some c.MediaDuration else
    if n == 18 then Some c.TrackDuration else
    if n == 19 then Some c.MovieDuration else
    if n == 20 then Some c.RunOutsideMedia else
    if n == 21 then Some c.DecodeTimeBack else
    if n == 22 then Some c.IndexSizes else
    if n == 23 then Some c.NalUnitsMisfit else
    if n == 24 then Some c.PcmFramesCut else None

abbrev pub code_at : ℕ → Option Code
code_at n =
    if n == 1 then Some c.NotMp4 else
    if n == 2 then Some c.FileCut else
    if n == 3 then Some c.BoxCut else
    if n == 4 then Some c.BoxTooSmall else
    if n == 5 then Some c.BoxInvalid else
    if n == 6 then Some c.BoxRepeated else
    if n == 7 then Some c.BoxMissing else
    if n == 8 then Some c.SizesUnlisted else
    if n == 9 then Some c.AvcWithoutSets else
    if n == 10 then Some c.MovieMissing else
    if n == 11 then Some c.TrackIdZero else later_code_at n

abbrev pub name_of : Option Code → List ℕ
name_of None = []
name_of (Some code) = word_of code

-- the word of the code with a number, or nothing if there is no such code
abbrev pub name_at : ℕ → List ℕ
name_at n = name_of (code_at n)

-- the word is copied, and its length is counted
abbrev pub CopiesName : ℕ → ℕ → List ℕ → List ℕ → ℕ → Type 0
CopiesName n status old new count = (count ≡ length (name_at n)) × Fills status (name_at n) old new

-- the row of a fault whose path and words are in the text, starting at this position
abbrev pub fault_row : ℕ → Value → List ℕ → FaultRow
fault_row at v words = record {
  position = v.position;
  path = part_at at (path_shown v.path);
  text = part_at (at + length (path_shown v.path)) words;
  code = code_number (code_of v.what);
  severity = severity_number (severity_of (code_of v.what));
}

-- The rows of these faults, and the texts of their paths and words, starting at this position.
abbrev pub AreRows : ℕ → List Value → List FaultRow → List ℕ → Type 0
AreRows at [] rows text = (rows ≡ []) × (text ≡ [])
AreRows at (v ∷ vs) rows text =
    (words rest : List ℕ) × (more : List FaultRow)
    × AreRows (at + length (path_shown v.path) + length words) vs more rest
    × (rows ≡ fault_row at v words ∷ more) × (text ≡ path_shown v.path ++ (words ++ rest))

-- The rows and the texts of these faults are appended.
abbrev pub AddsFaults : List Value → FoundFaults → FoundFaults → Type 0
AddsFaults vs old new =
    (rows : List FaultRow) × (text : List ℕ) × AreRows (length old.text.items) vs rows text
    × (new.rows.items ≡ old.rows.items ++ rows) × (new.text.items ≡ old.text.items ++ text)

-- The rows and the texts are those of the faults of a file, and of no others. This is a record so that a caller's proof
-- doesn't compute the faults.
pub record AreFaults {A : Type 0} (known : BoxType → Bool) (reading : BoxType → List ℕ → ℕ → ℕ → Reading A)
    (reads_sidx : List ℕ → ℕ → ℕ → Reading Sidx) (file : List ℕ) (found : FoundFaults) : Type 0 where
  pub are : AreRows 0 (faults_of known reading reads_sidx file) found.rows.items found.text.items

-- the two arrays of the caller
pub record FaultArrays : Type 0 where
  pub rows : List FaultRow
  pub text : List ℕ

-- Both arrays begin with the rows and the texts, and the places after them are as they were.
pub record AreFilled (found : FoundFaults) (old new : FaultArrays) : Type 0 where
  pub rows : IsFilled found.rows.items old.rows new.rows
  pub text : IsFilled found.text.items old.text new.text

-- One of the arrays is too short, and both are as they were.
pub record AreShort (found : FoundFaults) (old new : FaultArrays) : Type 0 where
  pub short : (length old.rows < length found.rows.items) ⊎ (length old.text < length found.text.items)
  pub kept : new ≡ old

abbrev pub FillsFaults : ℕ → FoundFaults → FaultArrays → FaultArrays → Type 0
FillsFaults status found old new =
    ((status ≡ OK) × AreFilled found old new) ⊎ ((status ≡ NO_ROOM) × AreShort found old new)

abbrev pub table_of : FoundFaults → FaultTable
table_of found = record { count = length found.rows.items; text_bytes = length found.text.items }

-- The faults of the file are copied, and counted. Or memory is refused, and the caller's memory is as it was.
abbrev pub ChecksFile : {A : Type 0} → (BoxType → Bool) → (BoxType → List ℕ → ℕ → ℕ → Reading A)
    → (List ℕ → ℕ → ℕ → Reading Sidx) → List ℕ → ℕ → FaultArrays → FaultArrays → FaultTable → FaultTable → Type 0
ChecksFile known reading reads_sidx file status old new table_old table_new =
    ((found : FoundFaults) × AreFaults known reading reads_sidx file found
    × (table_new ≡ table_of found) × FillsFaults status found old new)
    ⊎ ((status ≡ OUT_OF_MEMORY) × ((new ≡ old) × (table_new ≡ table_old)))
