-- vpcC, the VP9 codec configuration box (VP Codec ISO Media File Format Binding, "VP Codec Configuration Box"). Its
-- fields, by offset and bytes:
-- - 8, 1 byte and 3 bytes: the version and the flags
-- - 12, 1 byte each: the profile and the level
-- - 14, 1 byte: the bit depth in the four high bits, the chroma subsampling in the next three, and the full range flag
--   in the lowest
-- - 15, 1 byte each: the colour primaries, the transfer characteristics and the matrix coefficients
-- - 18, 2 bytes: the number of bytes of initialization data
use Rattle.std.specs.Prelude.{ℕ, Bool, ◌+◌, ◌*◌, ◌/◌, ◌%◌, ◌<◌, ◌==◌, if◌then◌else◌, List, [], ◌∷◌, ◌++◌}
use Rattle.mp4_frame.specs.Bytes.{number, bytes_of_fields, FieldsFit, full_box}
use Rattle.mp4_frame.specs.Reading.{Reading, ◌>>=◌, expect_bytes, done}
use Rattle.mp4_frame.specs.Format.{Format}
use Rattle.mp4_frame.specs.declared.box_type.BoxType.TheVariants as names
use Rattle.mp4_frame.specs.declared.codes.TheConstants as codes
use Rattle.mp4_entries.specs.declared.vpcc.VpccBox.{VpccBox}

-- the value, where `at o w` is the number of w bytes at offset o
abbrev pub value_vpcc : (ℕ → ℕ → ℕ) → VpccBox
value_vpcc at = record {
  version = at 8 1;
  flags = at 9 3;
  profile = at 12 1;
  level = at 13 1;
  bit_depth = at 14 1 / 16;
  chroma_subsampling = at 14 1 / 2 % 8;
  video_full_range_flag = at 14 1 % 2 == 1;
  color_primaries = at 15 1;
  transfer_characteristics = at 16 1;
  matrix_coefficients = at 17 1;
  codec_initialization_data_size = at 18 2;
}

unfoldable pub reads_vpcc : List ℕ → ℕ → ℕ → Reading VpccBox
reads_vpcc bytes start size = do
  _ ← expect_bytes bytes 8 12
  done (value_vpcc (number bytes))

-- a byte with three fields
abbrev pub three_fields : ℕ → ℕ → Bool → ℕ
three_fields bit_depth chroma_subsampling full_range =
    bit_depth * 16 + chroma_subsampling * 2 + (if full_range then 1 else 0)

abbrev pub size_vpcc : VpccBox → ℕ
size_vpcc v = 20

abbrev pub fields_vpcc : VpccBox → List (ℕ × ℕ)
fields_vpcc v =
    full_box 20 codes.VPCC v.version v.flags
    ++ (1, v.profile) ∷ (1, v.level) ∷ (1, three_fields v.bit_depth v.chroma_subsampling v.video_full_range_flag)
    ∷ (1, v.color_primaries) ∷ (1, v.transfer_characteristics) ∷ (1, v.matrix_coefficients)
    ∷ (2, v.codec_initialization_data_size) ∷ []

-- Every number fits its field, and the bit depth and the chroma subsampling fit their bits.
pub record WritableVpcc (v : VpccBox) : Type 0 where
  pub fit : FieldsFit (fields_vpcc v)
  pub depth : v.bit_depth < 16
  pub chroma : v.chroma_subsampling < 8

unfoldable pub bytes_vpcc : VpccBox → List ℕ
bytes_vpcc v = bytes_of_fields (fields_vpcc v)

abbrev pub format_vpcc : Format VpccBox
format_vpcc = record
    { name = λ _. names.VpccBox; size = size_vpcc; Writable = WritableVpcc; bytes = bytes_vpcc; normal = λ v. v }
