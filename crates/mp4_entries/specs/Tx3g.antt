-- tx3g, the sample entry of timed text (3GPP TS 26.245, 5.16). Its fields, by offset and bytes:
-- - 8, 6 bytes: reserved
-- - 14, 2 bytes: the data reference index
-- - 16, 4 bytes: the display flags
-- - 20, 1 byte each: the signed horizontal and vertical justification
-- - 22, 1 byte each: the four components of the colour
-- - 26, 2 bytes each: the four signed numbers of the text box
-- - 34, 12 bytes: the style
use Rattle.std.specs.Prelude.{◌≡◌, ℕ, ℤ, pos, negsuc, FitsSigned, List, [], ◌∷◌, ◌++◌, All, length, slice_index_or}
use Rattle.std.specs.Int.{w8, w16, cast_signed, cast_unsigned}
use Rattle.mp4_frame.specs.Bytes.{number, bytes_of_fields, FieldsFit}
use Rattle.mp4_frame.specs.Reading.{Reading, ◌>>=◌, expect_bytes, done}
use Rattle.mp4_frame.specs.Format.{Format}
use Rattle.mp4_frame.specs.declared.box_type.BoxType.TheVariants as names
use Rattle.mp4_frame.specs.declared.codes.TheConstants as codes
use Rattle.mp4_entries.specs.Arrays.{array_at, field_of_array, IsArray}
use Rattle.mp4_entries.specs.declared.tx3g.Tx3gBox.{Tx3gBox}

-- the value, where `at o w` is the number of w bytes at offset o
abbrev pub value_tx3g : (ℕ → ℕ → ℕ) → Tx3gBox
value_tx3g at = record {
  data_reference_index = at 14 2;
  display_flags = at 16 4;
  horizontal_justification = cast_signed w8 (at 20 1);
  vertical_justification = cast_signed w8 (at 21 1);
  bg_color_rgba = record { red = at 22 1; green = at 23 1; blue = at 24 1; alpha = at 25 1 };
  box_record = cast_signed w16 (at 26 2) ∷ cast_signed w16 (at 28 2) ∷ cast_signed w16 (at 30 2)
      ∷ cast_signed w16 (at 32 2) ∷ [];
  style_record = array_at at 34 12;
}

unfoldable pub reads_tx3g : List ℕ → ℕ → ℕ → Reading Tx3gBox
reads_tx3g bytes start size = do
  _ ← expect_bytes bytes 8 38
  done (value_tx3g (number bytes))

abbrev pub size_tx3g : Tx3gBox → ℕ
size_tx3g v = 46

-- the field of the i-th of several signed numbers of 16 bits
abbrev pub field_at : List ℤ → ℕ → ℕ × ℕ
field_at numbers i = (2, cast_unsigned w16 (slice_index_or numbers i (pos 0)))

abbrev pub fields_box_record : List ℤ → List (ℕ × ℕ)
fields_box_record numbers = field_at numbers 0 ∷ field_at numbers 1 ∷ field_at numbers 2 ∷ field_at numbers 3 ∷ []

-- the fields before the colour
abbrev pub start_tx3g : ℕ → ℕ → ℤ → ℤ → List (ℕ × ℕ)
start_tx3g data_reference_index display_flags horizontal vertical =
    (4, 46) ∷ (4, codes.TX3G) ∷ (6, 0) ∷ (2, data_reference_index) ∷ (4, display_flags)
    ∷ (1, cast_unsigned w8 horizontal) ∷ (1, cast_unsigned w8 vertical) ∷ []

abbrev pub fields_tx3g : Tx3gBox → List (ℕ × ℕ)
fields_tx3g v =
    start_tx3g v.data_reference_index v.display_flags v.horizontal_justification v.vertical_justification
    ++ (1, v.bg_color_rgba.red) ∷ (1, v.bg_color_rgba.green) ∷ (1, v.bg_color_rgba.blue) ∷ (1, v.bg_color_rgba.alpha)
    ∷ fields_box_record v.box_record
    ++ field_of_array 12 v.style_record ∷ []

-- four signed numbers of 16 bits
pub record IsBoxRecord (numbers : List ℤ) : Type 0 where
  pub four : length numbers ≡ 4
  pub signed : All (FitsSigned w16) numbers
  pub fit : FieldsFit (fields_box_record numbers)

-- Every number fits its field.
pub record WritableTx3g (v : Tx3gBox) : Type 0 where
  pub fit : FieldsFit (fields_tx3g v)
  pub horizontal : FitsSigned w8 v.horizontal_justification
  pub vertical : FitsSigned w8 v.vertical_justification
  pub corners : IsBoxRecord v.box_record
  pub style : IsArray 12 v.style_record

unfoldable pub bytes_tx3g : Tx3gBox → List ℕ
bytes_tx3g v = bytes_of_fields (fields_tx3g v)

-- white text of size 16 in font 1, centred at the bottom, on an opaque black background
abbrev pub default_tx3g : Tx3gBox
default_tx3g = record {
  data_reference_index = 0;
  display_flags = 0;
  horizontal_justification = pos 1;
  vertical_justification = negsuc 0;
  bg_color_rgba = record { red = 0; green = 0; blue = 0; alpha = 255 };
  box_record = pos 0 ∷ pos 0 ∷ pos 0 ∷ pos 0 ∷ [];
  style_record = 0 ∷ 0 ∷ 0 ∷ 0 ∷ 0 ∷ 1 ∷ 0 ∷ 16 ∷ 255 ∷ 255 ∷ 255 ∷ 255 ∷ [];
}

abbrev pub format_tx3g : Format Tx3gBox
format_tx3g = record
    { name = λ _. names.Tx3gBox; size = size_tx3g; Writable = WritableTx3g; bytes = bytes_tx3g; normal = λ v. v }
