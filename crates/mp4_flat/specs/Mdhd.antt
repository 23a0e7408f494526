-- mdhd, the media header box (ISO/IEC 14496-12, 8.4.2). Its times take t bytes each: 4 in version 0, 8 in version 1.
-- The fields are version 1 byte, flags 3, creation time t bytes at 12, modification time t, timescale 4, duration t,
-- language 2, and 2 bytes that are written as zero and may be missing when the box is read.
use Rattle.std.specs.Prelude.{ℕ, ◌+◌, ◌*◌, List, [], ◌∷◌, ◌++◌, codes}
use Rattle.mp4_frame.specs.Bytes.{bytes_of_fields, full_box}
use Rattle.mp4_frame.specs.Reading.{Reading, ◌>>=◌, memory, done}
use Rattle.mp4_flat.specs.Language.{language_code, letters}
use Rattle.mp4_flat.specs.Time.{time_width, timed_size, reads_timed, WritableTimed}
use Rattle.mp4_frame.specs.Format.{Format}
use Rattle.mp4_frame.specs.declared.box_type.BoxType.TheVariants as names
use Rattle.mp4_frame.specs.declared.codes.TheConstants as codes
use Rattle.mp4_flat.specs.declared.mdhd.MdhdBox.{MdhdBox}

-- the value, for times of t bytes, where `at o w` is the number of w bytes at offset o
abbrev pub value_mdhd : ℕ → (ℕ → ℕ → ℕ) → MdhdBox
value_mdhd t at = record {
  version = at 8 1;
  flags = at 9 3;
  creation_time = at 12 t;
  modification_time = at (12 + t) t;
  timescale = at (12 + 2 * t) 4;
  duration = at (16 + 2 * t) t;
  language = letters (at (16 + 3 * t) 2);
}

unfoldable pub reads_mdhd : List ℕ → ℕ → ℕ → Reading MdhdBox
reads_mdhd bytes start size = do
  v ← reads_timed (λ t. 6 + 3 * t) value_mdhd bytes
  _ ← memory
  done v

abbrev pub size_mdhd : MdhdBox → ℕ
size_mdhd v = 16 + timed_size (λ t. 4 + 3 * t) v.version

abbrev pub fields_mdhd : MdhdBox → List (ℕ × ℕ)
fields_mdhd v =
    let t = time_width v.version in
    full_box (size_mdhd v) codes.MDHD v.version v.flags
    ++ (t, v.creation_time) ∷ (t, v.modification_time) ∷ (4, v.timescale) ∷ (t, v.duration)
    ∷ (2, language_code v.language) ∷ (2, 0) ∷ []

abbrev pub default_mdhd : MdhdBox
default_mdhd = record {
  version = 0;
  flags = 0;
  creation_time = 0;
  modification_time = 0;
  timescale = 1000;
  duration = 0;
  language = codes "und";
}

abbrev pub WritableMdhd : MdhdBox → Type 0
WritableMdhd v = WritableTimed v.version (fields_mdhd v)

unfoldable pub bytes_mdhd : MdhdBox → List ℕ
bytes_mdhd v = bytes_of_fields (fields_mdhd v)

-- the value with the language that is read back
abbrev pub normal_mdhd : MdhdBox → MdhdBox
normal_mdhd v = record v { language = letters (language_code v.language) }

abbrev pub format_mdhd : Format MdhdBox
format_mdhd = record
    { name = λ _. names.MdhdBox; size = size_mdhd; Writable = WritableMdhd; bytes = bytes_mdhd; normal = normal_mdhd }
