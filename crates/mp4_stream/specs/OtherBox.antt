-- A box of a type that AnyBox doesn't have, kept as its bytes. Its content begins at offset 8.
use Rattle.std.specs.Prelude.{◌≡◌, ℕ, ◌+◌, ◌-◌, nat_le, not, false, List, [], ◌∷◌, ◌++◌, length}
use Rattle.mp4_frame.specs.BoxType.{name_of}
use Rattle.mp4_frame.specs.Bytes.{bytes_of_fields, FieldsFit}
use Rattle.mp4_frame.specs.Format.{Format}
use Rattle.mp4_frame.specs.Laws.{AreBytes}
use Rattle.mp4_frame.specs.Reading.{Reading, ◌>>=◌, check, piece_at, memory, done}
use Rattle.mp4_stream.specs.Other.{is_typed}
use Rattle.mp4_stream.specs.declared.other_box.OtherBox.{OtherBox}

-- a box with this code and a copy of this content, after a check that the code is that of no type
abbrev pub copy_other : ℕ → List ℕ → Reading OtherBox
copy_other code content = do
  _ ← check (not (is_typed code))
  _ ← memory
  done (record { code = code; content = content })

-- a box with this code and this size at the start of the bytes
unfoldable pub content_other : ℕ → List ℕ → ℕ → Reading OtherBox
content_other code bytes size = do
  _ ← check (nat_le 8 size)
  content ← piece_at bytes 8 (size - 8)
  _ ← memory
  done (record { code = code; content = content })

abbrev pub reads_other : ℕ → List ℕ → ℕ → ℕ → Reading OtherBox
reads_other code bytes start size = content_other code bytes size

abbrev pub size_other : OtherBox → ℕ
size_other v = 8 + length v.content

abbrev pub fields_other : OtherBox → List (ℕ × ℕ)
fields_other v = (4, size_other v) ∷ (4, v.code) ∷ []

-- Size and code fit their fields, the code is that of no type, and the content is bytes.
pub record WritableOther (v : OtherBox) : Type 0 where
  pub fit : FieldsFit (fields_other v)
  pub untyped : is_typed v.code ≡ false
  pub are : AreBytes v.content

unfoldable pub bytes_other : OtherBox → List ℕ
bytes_other v = bytes_of_fields (fields_other v) ++ v.content

abbrev pub format_other : Format OtherBox
format_other = record
    { name = λ v. name_of v.code; size = size_other; Writable = WritableOther; bytes = bytes_other; normal = λ v. v }
