-- vp09, the sample entry of VP9 video (VP Codec ISO Media File Format Binding, "VP Codec Sample Entry Box"). Its
-- fields, by offset and bytes:
-- - 8, 1 byte and 3 bytes: the version and the flags
-- - 12, 2 bytes: the start code
-- - 14, 2 bytes: the data reference index
-- - 16, 16 bytes: reserved
-- - 32, 2 bytes each: the width and the height
-- - 36, 2 bytes each: the two parts of the horizontal resolution, and of the vertical
-- - 44, 4 bytes: reserved
-- - 48, 2 bytes: the frame count
-- - 50, 32 bytes: the compressor name
-- - 82, 2 bytes each: the depth and the end code
-- - 86: the child, which is read as vpcC, whatever its code
use Rattle.std.specs.Prelude.{ℕ, false, ◌+◌, List, [], ◌∷◌, ◌++◌, replicate}
use Rattle.mp4_frame.specs.Bytes.{number, bytes_of_fields, full_box}
use Rattle.mp4_frame.specs.Format.{Format}
use Rattle.mp4_frame.specs.OneChild.{any_child}
use Rattle.mp4_frame.specs.FieldsThenChild.{WritableParent}
use Rattle.mp4_frame.specs.Reading.{Reading, ◌>>=◌, expect_bytes, done}
use Rattle.mp4_frame.specs.declared.box_type.BoxType.TheVariants as names
use Rattle.mp4_frame.specs.declared.codes.TheConstants as codes
use Rattle.mp4_media.specs.declared.vp9_config.Vp9Config.{Vp9Config}
use Rattle.mp4_entries.specs.Arrays.{array_at, field_of_array, IsArray}
use Rattle.mp4_entries.specs.Vpcc.{reads_vpcc, format_vpcc}
use Rattle.mp4_entries.specs.declared.vp09.Vp09Box.{Vp09Box}
use Rattle.mp4_entries.specs.declared.vpcc.VpccBox.{VpccBox}

-- the value with a child, where `at o w` is the number of w bytes at offset o
abbrev pub value_vp09 : (ℕ → ℕ → ℕ) → VpccBox → Vp09Box
value_vp09 at vpcc = record {
  version = at 8 1;
  flags = at 9 3;
  start_code = at 12 2;
  data_reference_index = at 14 2;
  reserved0 = array_at at 16 16;
  width = at 32 2;
  height = at 34 2;
  horizresolution = (at 36 2, at 38 2);
  vertresolution = (at 40 2, at 42 2);
  reserved1 = array_at at 44 4;
  frame_count = at 48 2;
  compressorname = array_at at 50 32;
  depth = at 82 2;
  end_code = at 84 2;
  vpcc = vpcc;
}

unfoldable pub reads_vp09 : List ℕ → ℕ → ℕ → Reading Vp09Box
reads_vp09 bytes start size = do
  _ ← expect_bytes bytes 8 78
  vpcc ← any_child reads_vpcc bytes start size 86
  done (value_vp09 (number bytes) vpcc)

abbrev pub size_vp09 : Vp09Box → ℕ
size_vp09 v = 86 + format_vpcc.size v.vpcc

-- the fields after version and flags
abbrev pub content_vp09 : Vp09Box → List (ℕ × ℕ)
content_vp09 v =
    (2, v.start_code) ∷ (2, v.data_reference_index) ∷ field_of_array 16 v.reserved0 ∷ (2, v.width) ∷ (2, v.height)
    ∷ (2, v.horizresolution.0) ∷ (2, v.horizresolution.1) ∷ (2, v.vertresolution.0) ∷ (2, v.vertresolution.1)
    ∷ field_of_array 4 v.reserved1 ∷ (2, v.frame_count) ∷ field_of_array 32 v.compressorname ∷ (2, v.depth)
    ∷ (2, v.end_code) ∷ []

abbrev pub fields_vp09 : Vp09Box → List (ℕ × ℕ)
fields_vp09 v = full_box (size_vp09 v) codes.VP09 v.version v.flags ++ content_vp09 v

-- The arrays have their lengths.
pub record HasArrays (v : Vp09Box) : Type 0 where
  pub first : IsArray 16 v.reserved0
  pub second : IsArray 4 v.reserved1
  pub compressor : IsArray 32 v.compressorname

-- Every number fits its field, the arrays have their lengths, and the child can be written.
pub record WritableVp09 (v : Vp09Box) : Type 0 where
  pub parent : WritableParent format_vpcc.Writable (fields_vp09 v) v.vpcc
  pub arrays : HasArrays v

unfoldable pub bytes_vp09 : Vp09Box → List ℕ
bytes_vp09 v = bytes_of_fields (fields_vp09 v) ++ format_vpcc.bytes v.vpcc

abbrev pub normal_vp09 : Vp09Box → Vp09Box
normal_vp09 v = record v { vpcc = format_vpcc.normal v.vpcc }

-- the sample entry made from a configuration
abbrev pub made_vp09 : Vp9Config → Vp09Box
made_vp09 config = record {
  version = 0;
  flags = 0;
  start_code = 0;
  data_reference_index = 1;
  reserved0 = replicate 16 0;
  width = config.width;
  height = config.height;
  horizresolution = (72, 0);
  vertresolution = (72, 0);
  reserved1 = replicate 4 0;
  frame_count = 1;
  compressorname = replicate 32 0;
  depth = 24;
  end_code = 0xffff;
  vpcc = record {
    version = 1;
    flags = 0;
    profile = 0;
    level = 31;
    bit_depth = 8;
    chroma_subsampling = 0;
    video_full_range_flag = false;
    color_primaries = 0;
    transfer_characteristics = 0;
    matrix_coefficients = 0;
    codec_initialization_data_size = 0;
  };
}

abbrev pub format_vp09 : Format Vp09Box
format_vp09 = record
    { name = λ _. names.Vp09Box; size = size_vp09; Writable = WritableVp09; bytes = bytes_vp09; normal = normal_vp09 }
