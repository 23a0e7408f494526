-- A new file for C: its pieces as rows, its new bytes, and the reason why there is none.
use Rattle.std.specs.Prelude.{◌≡◌, ℕ, ◌+◌, ◌-◌, ◌<◌, ◌≤◌, ◌==◌, ◌⊎◌, All, List, [], ◌∷◌, length, take, drop}
use Rattle.std.specs.Prelude.{None, Some, not, if◌then◌else◌}
use Rattle.std.specs.List.{flat_map}
use Rattle.mp4_c.specs.declared.new_file.FoundFile.{FoundFile}
use Rattle.mp4_c.specs.declared.new_file.NewFile.{NewFile}
use Rattle.mp4_c.specs.declared.new_file.PieceRow.{PieceRow}
use Rattle.mp4_c.specs.declared.new_file.TheConstants.{REFUSED}
use Rattle.mp4_c.specs.declared.rewriting.FragmentRow.{FragmentRow}
use Rattle.mp4_c_boxes.specs.Calls.{IsFilled}
use Rattle.mp4_c_boxes.specs.declared.status.TheConstants.{OK, NO_ROOM, OUT_OF_MEMORY}
use Rattle.mp4_remux.specs.Pieces.{lengths}
use Rattle.mp4_remux.specs.declared.forms.fragmenting.FragmentOptions.{FragmentOptions}
use Rattle.mp4_remux.specs.declared.pieces.piece.Piece.{Piece}
use Rattle.mp4_remux.specs.declared.pieces.piece.Piece.TheVariants.{New, Old}
use Rattle.mp4_remux_files.specs.declared.cut.Times.{Times}
use Rattle.mp4_remux_files.specs.declared.task.Done.{Done}
use Rattle.mp4_remux_files.specs.declared.task.Done.TheVariants as results

-- the bytes in which a row is: the new bytes N, or the old file B
abbrev pub bytes_in : List ℕ → List ℕ → PieceRow → List ℕ
bytes_in B N r = if r.is_new == 1 then N else B

-- the bytes of a row
abbrev pub row_bytes : List ℕ → List ℕ → PieceRow → List ℕ
row_bytes B N r = take r.length (drop r.position (bytes_in B N r))

-- all bytes of a row are present
abbrev pub IsRowWithin : List ℕ → List ℕ → PieceRow → Type 0
IsRowWithin B N r = r.position + r.length ≤ length (bytes_in B N r)

-- The rows spell out the new file C over the old file B and the new bytes N.
pub record SpellsOut (B N : List ℕ) (rows : List PieceRow) (C : List ℕ) : Type 0 where
  pub within : All (IsRowWithin B N) rows
  pub file : flat_map (row_bytes B N) rows ≡ C

-- the new bytes of a piece
abbrev pub new_of : Piece → List ℕ
new_of (New v) = v.items
new_of (Old begin end) = []

-- the row of a piece, before which there are `at` new bytes
abbrev pub row_of : ℕ → Piece → PieceRow
row_of at (New v) = record { position = at; length = length v.items; is_new = 1 }
row_of at (Old begin end) = record { position = begin; length = end - begin; is_new = 0 }

-- the rows of pieces, before which there are `at` new bytes
unfoldable pub rows_of : ℕ → List Piece → List PieceRow
rows_of at [] = []
rows_of at (p ∷ ps) = row_of at p ∷ rows_of (at + length (new_of p)) ps

-- The rows and the new bytes are those of these pieces.
pub record ArePieces (ps : List Piece) (found : FoundFile) : Type 0 where
  pub rows : found.rows.items ≡ rows_of 0 ps
  pub bytes : found.bytes.items ≡ flat_map new_of ps

-- The two arrays begin with the rows and the new bytes. Or one of them is too short, and both are as they were.
abbrev pub FillsFile : ℕ → FoundFile → List PieceRow → List PieceRow → List ℕ → List ℕ → Type 0
FillsFile status found rows_old rows_new bytes_old bytes_new =
    ((status ≡ OK) × IsFilled found.rows.items rows_old rows_new × IsFilled found.bytes.items bytes_old bytes_new)
    ⊎ ((status ≡ NO_ROOM)
    × ((length rows_old < length found.rows.items) ⊎ (length bytes_old < length found.bytes.items))
    × (rows_new ≡ rows_old) × (bytes_new ≡ bytes_old))

-- The array begins with the reason. Or it is too short, and is as it was.
abbrev pub FillsReason : ℕ → List ℕ → List ℕ → List ℕ → Type 0
FillsReason status reason old new =
    ((status ≡ REFUSED) × IsFilled reason old new)
    ⊎ ((status ≡ NO_ROOM) × (length old < length reason) × (new ≡ old))

-- the three arrays of the caller
pub record NewFileArrays : Type 0 where
  pub pieces : List PieceRow
  pub bytes : List ℕ
  pub text : List ℕ

-- The file is refused for a reason with this number of bytes.
abbrev pub refused_of : ℕ → NewFile
refused_of n = record {
  piece_count = 0;
  new_bytes = 0;
  text_bytes = n;
  length = 0;
  fragments = 0;
  samples = 0;
  moved_from = 0;
  moved_to = 0;
}

-- what was done
abbrev pub done_in : Done → NewFile
done_in (results.Moved c) = record (refused_of 0) { moved_from = c.begin; moved_to = c.insert }
done_in results.Copied = refused_of 0
done_in (results.Edited n) = refused_of 0
done_in (results.Fragmented n) = record (refused_of 0) { fragments = n }
done_in (results.Joined fragments samples) = record (refused_of 0) { fragments = fragments; samples = samples }
done_in (results.Cut samples) = record (refused_of 0) { samples = samples }

-- the numbers of rows and of new bytes, and of the bytes of the new file, and what was done
abbrev pub file_of : FoundFile → ℕ → Done → NewFile
file_of found n done = record (done_in done) {
  piece_count = length found.rows.items;
  new_bytes = length found.bytes.items;
  length = n;
}

-- the options of fragments
abbrev pub options_of : FragmentRow → FragmentOptions
options_of r = record {
  least = if r.least == 0 then None else Some r.least;
  has_sidx = not (r.has_sidx == 0);
  has_mfra = not (r.has_mfra == 0);
  is_segmented = not (r.has_styp == 0);
}

-- the times of a part
abbrev pub times_of : ℕ → ℕ → Times
times_of from to = record { from = from; to = to }

-- The rows and the new bytes of a plan are counted and copied. Or memory is refused, and the caller's memory is as it
-- was.
abbrev pub ReturnsPlan : List Piece → Done → ℕ → List PieceRow → List PieceRow → List ℕ → List ℕ → NewFile → NewFile
    → Type 0
ReturnsPlan ps done status rows_old rows_new bytes_old bytes_new file_old file_new =
    ((found : FoundFile) × ArePieces ps found × (file_new ≡ file_of found (lengths ps) done)
    × FillsFile status found rows_old rows_new bytes_old bytes_new)
    ⊎ ((status ≡ OUT_OF_MEMORY) × (rows_new ≡ rows_old) × (bytes_new ≡ bytes_old) × (file_new ≡ file_old))

-- A reason is counted and copied. Or memory is refused, and the caller's memory is as it was.
abbrev pub ReturnsReason : ℕ → List ℕ → List ℕ → NewFile → NewFile → Type 0
ReturnsReason status text_old text_new file_old file_new =
    ((reason : List ℕ) × (file_new ≡ refused_of (length reason)) × FillsReason status reason text_old text_new)
    ⊎ ((status ≡ OUT_OF_MEMORY) × (text_new ≡ text_old) × (file_new ≡ file_old))

-- A new file C is planned over the old file B, for which Makes holds with what was done. The rows and the new bytes
-- spell out C. They are counted and copied, and there is no reason.
abbrev pub PlansFile : (Done → List ℕ → Type 0) → List ℕ → ℕ → NewFileArrays → NewFileArrays → NewFile → Type 0
PlansFile Makes B status old new file =
    (done : Done) × (C : List ℕ) × Makes done C
    × ((found : FoundFile) × SpellsOut B found.bytes.items found.rows.items C
    × (file ≡ file_of found (length C) done)
    × FillsFile status found old.pieces new.pieces old.bytes new.bytes × (new.text ≡ old.text))

-- The call plans a new file. Or it refuses the old file: a reason is counted and copied, and there are no rows and no
-- new bytes. Or memory is refused, and the caller's memory is as it was.
abbrev pub ReturnsFile : (Done → List ℕ → Type 0) → List ℕ → ℕ → NewFileArrays → NewFileArrays → NewFile → NewFile
    → Type 0
ReturnsFile Makes B status old new file_old file_new =
    PlansFile Makes B status old new file_new
    ⊎ (ReturnsReason status old.text new.text file_old file_new × (new.pieces ≡ old.pieces) × (new.bytes ≡ old.bytes))
