-- `mark`, a box of 12 bytes: the header, and a number of 4 bytes at offset 8.
use Rattle.std.specs.Prelude.{ℕ, Bool, false, ◌==◌, List, [], ◌∷◌}
use Rattle.mp4_frame.specs.Bytes.{number, bytes_of_fields, FieldsFit}
use Rattle.mp4_frame.specs.Format.{Format}
use Rattle.mp4_frame.specs.Reading.{Reading, ◌>>=◌, expect_bytes, done, reading}
use Rattle.mp4_frame.specs.declared.box_type.BoxType.{BoxType}
use Rattle.mp4_frame.specs.declared.box_type.BoxType.TheVariants as names
use Rattle.example_boxes.specs.declared.mark.TheConstants.{MARK}
use Rattle.example_boxes.specs.declared.mark.MarkBox.{MarkBox}

-- The value of a box. `at o w` is the number of w bytes at offset o.
abbrev pub value_mark : (ℕ → ℕ → ℕ) → MarkBox
value_mark at = record { mark = at 8 4 }

unfoldable pub reads_mark : List ℕ → ℕ → ℕ → Reading MarkBox
reads_mark bytes start size = do
  _ ← expect_bytes bytes 8 4
  done (value_mark (number bytes))

abbrev pub fields_mark : MarkBox → List (ℕ × ℕ)
fields_mark v = (4, 12) ∷ (4, MARK) ∷ (4, v.mark) ∷ []

abbrev pub WritableMark : MarkBox → Type 0
WritableMark v = FieldsFit (fields_mark v)

unfoldable pub bytes_mark : MarkBox → List ℕ
bytes_mark v = bytes_of_fields (fields_mark v)

abbrev pub format_mark : Format MarkBox
format_mark = record
    { name = λ _. names.UnknownBox MARK; size = λ _. 12; Writable = WritableMark; bytes = bytes_mark; normal = λ v. v }

-- The only name that is read.
abbrev pub known_mark : BoxType → Bool
known_mark (names.UnknownBox code) = code == MARK
known_mark _ = false

abbrev pub reading_mark : BoxType → List ℕ → ℕ → ℕ → Reading MarkBox
reading_mark name bytes start size = reading reads_mark bytes start size
