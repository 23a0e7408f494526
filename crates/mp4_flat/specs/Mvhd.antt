-- mvhd, the movie header box (ISO/IEC 14496-12, 8.2.2). Its times take t bytes each: 4 in version 0, 8 in version 1.
-- The fields are version 1 byte, flags 3, creation time t bytes at 12, modification time t, timescale 4, duration t,
-- rate 4, volume 2, 10 bytes of zero, matrix 36, 24 bytes of zero, and the number for the next track in 4.
use Rattle.std.specs.Prelude.{ℕ, ◌+◌, ◌*◌, List, [], ◌∷◌, ◌++◌}
use Rattle.mp4_frame.specs.Bytes.{bytes_of_fields, full_box}
use Rattle.mp4_frame.specs.Reading.{Reading}
use Rattle.mp4_flat.specs.Matrix.{matrix_at, fields_matrix, unity, IsMatrix}
use Rattle.mp4_flat.specs.Time.{time_width, timed_size, reads_timed, WritableTimed}
use Rattle.mp4_frame.specs.Format.{Format}
use Rattle.mp4_frame.specs.declared.box_type.BoxType.TheVariants as names
use Rattle.mp4_frame.specs.declared.codes.TheConstants as codes
use Rattle.mp4_flat.specs.declared.mvhd.MvhdBox.{MvhdBox}

-- the value, for times of t bytes, where `at o w` is the number of w bytes at offset o
abbrev pub value_mvhd : ℕ → (ℕ → ℕ → ℕ) → MvhdBox
value_mvhd t at = record {
  version = at 8 1;
  flags = at 9 3;
  creation_time = at 12 t;
  modification_time = at (12 + t) t;
  timescale = at (12 + 2 * t) 4;
  duration = at (16 + 2 * t) t;
  rate = at (16 + 3 * t) 4;
  volume = at (20 + 3 * t) 2;
  matrix = matrix_at at (32 + 3 * t);
  next_track_id = at (92 + 3 * t) 4;
}

unfoldable pub reads_mvhd : List ℕ → ℕ → ℕ → Reading MvhdBox
reads_mvhd bytes start size = reads_timed (λ t. 84 + 3 * t) value_mvhd bytes

abbrev pub size_mvhd : MvhdBox → ℕ
size_mvhd v = 92 + timed_size (λ t. 4 + 3 * t) v.version

abbrev pub fields_mvhd : MvhdBox → List (ℕ × ℕ)
fields_mvhd v =
    let t = time_width v.version in
    full_box (size_mvhd v) codes.MVHD v.version v.flags
    ++ (t, v.creation_time) ∷ (t, v.modification_time) ∷ (4, v.timescale) ∷ (t, v.duration)
    ∷ (4, v.rate) ∷ (2, v.volume) ∷ (10, 0)
    ∷ fields_matrix v.matrix ++ (24, 0) ∷ (4, v.next_track_id) ∷ []

abbrev pub default_mvhd : MvhdBox
default_mvhd = record {
  version = 0;
  flags = 0;
  creation_time = 0;
  modification_time = 0;
  timescale = 1000;
  duration = 0;
  rate = 0x10000;
  volume = 0x100;
  matrix = unity;
  next_track_id = 1;
}

abbrev pub WritableMvhd : MvhdBox → Type 0
WritableMvhd v = WritableTimed v.version (fields_mvhd v) × IsMatrix v.matrix

unfoldable pub bytes_mvhd : MvhdBox → List ℕ
bytes_mvhd v = bytes_of_fields (fields_mvhd v)

abbrev pub format_mvhd : Format MvhdBox
format_mvhd = record
    { name = λ _. names.MvhdBox; size = size_mvhd; Writable = WritableMvhd; bytes = bytes_mvhd; normal = λ v. v }
