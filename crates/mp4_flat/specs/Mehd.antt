-- mehd, the movie extends header box (ISO/IEC 14496-12, 8.8.2). The fields are version 1 byte, which is 0 or 1,
-- flags 3, and the duration at 12, in 4 bytes (version 0) or 8 (version 1).
use Rattle.std.specs.Prelude.{ℕ, ◌+◌, List, [], ◌∷◌, ◌++◌}
use Rattle.mp4_frame.specs.Bytes.{bytes_of_fields, full_box}
use Rattle.mp4_frame.specs.Reading.{Reading}
use Rattle.mp4_flat.specs.Time.{time_width, timed_size, reads_timed, WritableTimed}
use Rattle.mp4_frame.specs.Format.{Format}
use Rattle.mp4_frame.specs.declared.box_type.BoxType.TheVariants as names
use Rattle.mp4_frame.specs.declared.codes.TheConstants as codes
use Rattle.mp4_flat.specs.declared.mehd.MehdBox.{MehdBox}

-- the value, for times of t bytes, where `at o w` is the number of w bytes at offset o
abbrev pub value_mehd : ℕ → (ℕ → ℕ → ℕ) → MehdBox
value_mehd t at = record { version = at 8 1; flags = at 9 3; fragment_duration = at 12 t }

unfoldable pub reads_mehd : List ℕ → ℕ → ℕ → Reading MehdBox
reads_mehd bytes start size = reads_timed (λ t. t) value_mehd bytes

abbrev pub size_mehd : MehdBox → ℕ
size_mehd v = 12 + timed_size (λ t. t) v.version

abbrev pub fields_mehd : MehdBox → List (ℕ × ℕ)
fields_mehd v = full_box (size_mehd v) codes.MEHD v.version v.flags ++ (time_width v.version, v.fragment_duration) ∷ []

abbrev pub WritableMehd : MehdBox → Type 0
WritableMehd v = WritableTimed v.version (fields_mehd v)

unfoldable pub bytes_mehd : MehdBox → List ℕ
bytes_mehd v = bytes_of_fields (fields_mehd v)

abbrev pub format_mehd : Format MehdBox
format_mehd = record
    { name = λ _. names.MehdBox; size = size_mehd; Writable = WritableMehd; bytes = bytes_mehd; normal = λ v. v }
