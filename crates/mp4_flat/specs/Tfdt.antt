-- tfdt, the track fragment decode time box (ISO/IEC 14496-12, 8.8.12). The fields are version 1 byte, which is 0
-- or 1, flags 3, and the time at 12, in 4 bytes (version 0) or 8 (version 1).
use Rattle.std.specs.Prelude.{ℕ, ◌+◌, List, [], ◌∷◌, ◌++◌}
use Rattle.mp4_frame.specs.Bytes.{bytes_of_fields, full_box}
use Rattle.mp4_frame.specs.Reading.{Reading}
use Rattle.mp4_flat.specs.Time.{time_width, reads_timed, WritableTimed}
use Rattle.mp4_frame.specs.Format.{Format}
use Rattle.mp4_frame.specs.declared.box_type.BoxType.TheVariants as names
use Rattle.mp4_frame.specs.declared.codes.TheConstants as codes
use Rattle.mp4_flat.specs.declared.tfdt.TfdtBox.{TfdtBox}

-- the value, for times of t bytes, where `at o w` is the number of w bytes at offset o
abbrev pub value_tfdt : ℕ → (ℕ → ℕ → ℕ) → TfdtBox
value_tfdt t at = record { version = at 8 1; flags = at 9 3; base_media_decode_time = at 12 t }

unfoldable pub reads_tfdt : List ℕ → ℕ → ℕ → Reading TfdtBox
reads_tfdt bytes start size = reads_timed (λ t. t) value_tfdt bytes

abbrev pub size_tfdt : TfdtBox → ℕ
size_tfdt v = 12 + time_width v.version

abbrev pub fields_tfdt : TfdtBox → List (ℕ × ℕ)
fields_tfdt v = full_box (size_tfdt v) codes.TFDT v.version v.flags
    ++ (time_width v.version, v.base_media_decode_time) ∷ []

abbrev pub WritableTfdt : TfdtBox → Type 0
WritableTfdt v = WritableTimed v.version (fields_tfdt v)

unfoldable pub bytes_tfdt : TfdtBox → List ℕ
bytes_tfdt v = bytes_of_fields (fields_tfdt v)

abbrev pub format_tfdt : Format TfdtBox
format_tfdt = record
    { name = λ _. names.TfdtBox; size = size_tfdt; Writable = WritableTfdt; bytes = bytes_tfdt; normal = λ v. v }
