-- tkhd, the track header box (ISO/IEC 14496-12, 8.3.2). Its times take t bytes each: 4 in version 0, 8 in version 1.
-- The fields are version 1 byte, flags 3, creation time t bytes at 12, modification time t, number of the track 4,
-- 4 reserved, duration t, 8 reserved, layer 2, alternate group 2, volume 2, 2 reserved, matrix 36, width 4, and
-- height 4. Reserved bytes must be present, and are written as zero.
use Rattle.std.specs.Prelude.{ℕ, ◌+◌, ◌*◌, List, [], ◌∷◌, ◌++◌}
use Rattle.mp4_frame.specs.Bytes.{bytes_of_fields, full_box}
use Rattle.mp4_frame.specs.Reading.{Reading}
use Rattle.mp4_flat.specs.Matrix.{matrix_at, fields_matrix, unity, IsMatrix}
use Rattle.mp4_flat.specs.Time.{time_width, timed_size, reads_timed, WritableTimed}
use Rattle.mp4_frame.specs.Format.{Format}
use Rattle.mp4_frame.specs.declared.box_type.BoxType.TheVariants as names
use Rattle.mp4_frame.specs.declared.codes.TheConstants as codes
use Rattle.mp4_flat.specs.declared.tkhd.TkhdBox.{TkhdBox}

-- the value, for times of t bytes, where `at o w` is the number of w bytes at offset o
abbrev pub value_tkhd : ℕ → (ℕ → ℕ → ℕ) → TkhdBox
value_tkhd t at = record {
  version = at 8 1;
  flags = at 9 3;
  creation_time = at 12 t;
  modification_time = at (12 + t) t;
  track_id = at (12 + 2 * t) 4;
  duration = at (20 + 2 * t) t;
  layer = at (28 + 3 * t) 2;
  alternate_group = at (30 + 3 * t) 2;
  volume = at (32 + 3 * t) 2;
  matrix = matrix_at at (36 + 3 * t);
  width = at (72 + 3 * t) 4;
  height = at (76 + 3 * t) 4;
}

unfoldable pub reads_tkhd : List ℕ → ℕ → ℕ → Reading TkhdBox
reads_tkhd bytes start size = reads_timed (λ t. 68 + 3 * t) value_tkhd bytes

abbrev pub size_tkhd : TkhdBox → ℕ
size_tkhd v = 72 + timed_size (λ t. 8 + 3 * t) v.version

abbrev pub fields_tkhd : TkhdBox → List (ℕ × ℕ)
fields_tkhd v =
    let t = time_width v.version in
    full_box (size_tkhd v) codes.TKHD v.version v.flags
    ++ (t, v.creation_time) ∷ (t, v.modification_time) ∷ (4, v.track_id) ∷ (4, 0) ∷ (t, v.duration) ∷ (8, 0)
    ∷ (2, v.layer) ∷ (2, v.alternate_group) ∷ (2, v.volume) ∷ (2, 0)
    ∷ fields_matrix v.matrix ++ (4, v.width) ∷ (4, v.height) ∷ []

abbrev pub default_tkhd : TkhdBox
default_tkhd = record {
  version = 0;
  flags = 1;
  creation_time = 0;
  modification_time = 0;
  track_id = 0;
  duration = 0;
  layer = 0;
  alternate_group = 0;
  volume = 0x100;
  matrix = unity;
  width = 0;
  height = 0;
}

abbrev pub WritableTkhd : TkhdBox → Type 0
WritableTkhd v = WritableTimed v.version (fields_tkhd v) × IsMatrix v.matrix

unfoldable pub bytes_tkhd : TkhdBox → List ℕ
bytes_tkhd v = bytes_of_fields (fields_tkhd v)

abbrev pub format_tkhd : Format TkhdBox
format_tkhd = record
    { name = λ _. names.TkhdBox; size = size_tkhd; Writable = WritableTkhd; bytes = bytes_tkhd; normal = λ v. v }
