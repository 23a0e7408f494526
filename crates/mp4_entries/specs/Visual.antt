-- A visual sample entry with one child (ISO/IEC 14496-12, 8.5.2 and 12.1.3). Its fields, by offset and bytes:
-- - 8, 6 bytes: reserved
-- - 14, 2 bytes: the data reference index
-- - 16, 16 bytes: reserved
-- - 32, 2 bytes each: the width and the height
-- - 36, 4 bytes each: the horizontal and the vertical resolution
-- - 44, 4 bytes: reserved
-- - 48, 2 bytes: the frame count
-- - 50, 32 bytes: a gap, which must be present, since a field follows it
-- - 82, 2 bytes: the depth
-- - 84, 2 bytes: reserved, written as ones
-- - 86: the child
use Rattle.std.specs.Prelude.{ℕ, ◌+◌, List, [], ◌∷◌, ◌++◌}
use Rattle.mp4_frame.specs.BoxType.{code_of}
use Rattle.mp4_frame.specs.Bytes.{number, bytes_of_fields}
use Rattle.mp4_frame.specs.Format.{Format}
use Rattle.mp4_frame.specs.OneChild.{named_child}
use Rattle.mp4_frame.specs.FieldsThenChild.{WritableParent}
use Rattle.mp4_frame.specs.Reading.{Reading, ◌>>=◌, expect_bytes, done}
use Rattle.mp4_frame.specs.declared.box_type.BoxType.{BoxType}
use Rattle.mp4_entries.specs.declared.visual.Visual.{Visual}

-- the fields, where `at o w` is the number of w bytes at offset o
abbrev pub visual_at : (ℕ → ℕ → ℕ) → Visual
visual_at at = record {
  data_reference_index = at 14 2;
  width = at 32 2;
  height = at 34 2;
  horizresolution = at 36 4;
  vertresolution = at 40 4;
  frame_count = at 48 2;
  depth = at 82 2;
}

-- the fields after size and code
abbrev pub content_visual : Visual → List (ℕ × ℕ)
content_visual v =
    (6, 0) ∷ (2, v.data_reference_index) ∷ (16, 0) ∷ (2, v.width) ∷ (2, v.height) ∷ (4, v.horizresolution)
    ∷ (4, v.vertresolution) ∷ (4, 0) ∷ (2, v.frame_count) ∷ (32, 0) ∷ (2, v.depth) ∷ (2, 0xffff) ∷ []

abbrev pub fields_visual : (size code : ℕ) → Visual → List (ℕ × ℕ)
fields_visual size code v = (4, size) ∷ (4, code) ∷ content_visual v

-- 72 pixels per inch, one frame per sample, and 24 bits per pixel
abbrev pub visual_of : (data_reference_index width height : ℕ) → Visual
visual_of data_reference_index width height = record {
  data_reference_index = data_reference_index;
  width = width;
  height = height;
  horizresolution = 0x480000;
  vertresolution = 0x480000;
  frame_count = 1;
  depth = 24;
}

-- A box of such fields and a child. `made visual c` is the box with these fields and this child.

-- the reading of a box whose child must have this code
abbrev pub reads_visual : {A P : Type 0} → (List ℕ → ℕ → ℕ → Reading A) → ℕ → (Visual → A → P) → List ℕ → ℕ → ℕ
    → Reading P
reads_visual reads code made bytes start size = do
  _ ← expect_bytes bytes 8 78
  c ← named_child reads code bytes start size 86
  done (made (visual_at (number bytes)) c)

abbrev pub size_visual : {A : Type 0} → Format A → A → ℕ
size_visual format c = 86 + format.size c

-- the format of a box with this name
abbrev pub format_visual : {A P : Type 0} → BoxType → Format A → (P → Visual) → (P → A) → (Visual → A → P) → Format P
format_visual name format visual child made = record {
  name = λ _. name;
  size = λ v. size_visual format (child v);
  Writable = λ v. WritableParent format.Writable
      (fields_visual (size_visual format (child v)) (code_of name) (visual v)) (child v);
  bytes = λ v. bytes_of_fields (fields_visual (size_visual format (child v)) (code_of name) (visual v))
      ++ format.bytes (child v);
  normal = λ v. made (visual v) (format.normal (child v));
}
