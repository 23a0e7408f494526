-- The boxes of fixed fields: for each the struct that C has for it (`fields_*`), and the box of such a struct (`*_of`).
use Rattle.std.specs.Prelude.{ℕ, ◌+◌, ◌*◌, ◌%◌, ℤ, pos, List, [], ◌∷◌, slice_index, slice_index_or}
use Rattle.std.specs.Int.{w16, cast_signed, cast_unsigned}
use Rattle.mp4_flat.specs.Language.{letters}
use Rattle.mp4_flat.specs.Matrix.{numbers_matrix}
use Rattle.mp4_flat.specs.declared.matrix.Matrix.{Matrix}
use Rattle.mp4_flat.specs.declared.mvhd.MvhdBox.{MvhdBox}
use Rattle.mp4_flat.specs.declared.tkhd.TkhdBox.{TkhdBox}
use Rattle.mp4_flat.specs.declared.mdhd.MdhdBox.{MdhdBox}
use Rattle.mp4_flat.specs.declared.mehd.MehdBox.{MehdBox}
use Rattle.mp4_flat.specs.declared.mfhd.MfhdBox.{MfhdBox}
use Rattle.mp4_flat.specs.declared.smhd.SmhdBox.{SmhdBox}
use Rattle.mp4_flat.specs.declared.vmhd.VmhdBox.{VmhdBox}
use Rattle.mp4_flat.specs.declared.trex.TrexBox.{TrexBox}
use Rattle.mp4_flat.specs.declared.tfdt.TfdtBox.{TfdtBox}
use Rattle.mp4_c_boxes.specs.declared.flat.Mvhd.{Mvhd}
use Rattle.mp4_c_boxes.specs.declared.flat.Tkhd.{Tkhd}
use Rattle.mp4_c_boxes.specs.declared.flat.Mdhd.{Mdhd}
use Rattle.mp4_c_boxes.specs.declared.flat.Mehd.{Mehd}
use Rattle.mp4_c_boxes.specs.declared.flat.Mfhd.{Mfhd}
use Rattle.mp4_c_boxes.specs.declared.flat.Smhd.{Smhd}
use Rattle.mp4_c_boxes.specs.declared.flat.Vmhd.{Vmhd}
use Rattle.mp4_c_boxes.specs.declared.flat.Trex.{Trex}
use Rattle.mp4_c_boxes.specs.declared.flat.Tfdt.{Tfdt}

-- the matrix with these nine numbers, in the order of the file
abbrev pub matrix_of : List ℤ → Matrix
matrix_of m = record {
  a = slice_index_or m 0 (pos 0);
  b = slice_index_or m 1 (pos 0);
  u = slice_index_or m 2 (pos 0);
  c = slice_index_or m 3 (pos 0);
  d = slice_index_or m 4 (pos 0);
  v = slice_index_or m 5 (pos 0);
  x = slice_index_or m 6 (pos 0);
  y = slice_index_or m 7 (pos 0);
  w = slice_index_or m 8 (pos 0);
}

-- the first three bytes of a language and a zero
abbrev pub language_letters : List ℕ → List ℕ
language_letters text = slice_index text 0 ∷ slice_index text 1 ∷ slice_index text 2 ∷ 0 ∷ []

-- the language with the five low bits of each of the first three letters
abbrev pub language_of : List ℕ → List ℕ
language_of text = letters (slice_index text 0 % 32 * 1024 + slice_index text 1 % 32 * 32 + slice_index text 2 % 32)

abbrev pub fields_mvhd : MvhdBox → Mvhd
fields_mvhd v = record {
  creation_time = v.creation_time;
  modification_time = v.modification_time;
  duration = v.duration;
  flags = v.flags;
  timescale = v.timescale;
  rate = v.rate;
  matrix = numbers_matrix v.matrix;
  next_track_id = v.next_track_id;
  volume = v.volume;
  version = v.version;
}

abbrev pub mvhd_of : Mvhd → MvhdBox
mvhd_of t = record {
  version = t.version;
  flags = t.flags;
  creation_time = t.creation_time;
  modification_time = t.modification_time;
  timescale = t.timescale;
  duration = t.duration;
  rate = t.rate;
  volume = t.volume;
  matrix = matrix_of t.matrix;
  next_track_id = t.next_track_id;
}

abbrev pub fields_tkhd : TkhdBox → Tkhd
fields_tkhd v = record {
  creation_time = v.creation_time;
  modification_time = v.modification_time;
  duration = v.duration;
  flags = v.flags;
  track_id = v.track_id;
  matrix = numbers_matrix v.matrix;
  width = v.width;
  height = v.height;
  layer = cast_signed w16 v.layer;
  alternate_group = cast_signed w16 v.alternate_group;
  volume = v.volume;
  version = v.version;
}

abbrev pub tkhd_of : Tkhd → TkhdBox
tkhd_of t = record {
  version = t.version;
  flags = t.flags;
  creation_time = t.creation_time;
  modification_time = t.modification_time;
  track_id = t.track_id;
  duration = t.duration;
  layer = cast_unsigned w16 t.layer;
  alternate_group = cast_unsigned w16 t.alternate_group;
  volume = t.volume;
  matrix = matrix_of t.matrix;
  width = t.width;
  height = t.height;
}

abbrev pub fields_mdhd : MdhdBox → Mdhd
fields_mdhd v = record {
  creation_time = v.creation_time;
  modification_time = v.modification_time;
  duration = v.duration;
  flags = v.flags;
  timescale = v.timescale;
  language = language_letters v.language;
  version = v.version;
}

abbrev pub mdhd_of : Mdhd → MdhdBox
mdhd_of t = record {
  version = t.version;
  flags = t.flags;
  creation_time = t.creation_time;
  modification_time = t.modification_time;
  timescale = t.timescale;
  duration = t.duration;
  language = language_of t.language;
}

abbrev pub fields_mehd : MehdBox → Mehd
fields_mehd v = record { fragment_duration = v.fragment_duration; flags = v.flags; version = v.version }

abbrev pub mehd_of : Mehd → MehdBox
mehd_of t = record { version = t.version; flags = t.flags; fragment_duration = t.fragment_duration }

abbrev pub fields_mfhd : MfhdBox → Mfhd
fields_mfhd v = record { flags = v.flags; sequence_number = v.sequence_number; version = v.version }

abbrev pub mfhd_of : Mfhd → MfhdBox
mfhd_of t = record { version = t.version; flags = t.flags; sequence_number = t.sequence_number }

abbrev pub fields_smhd : SmhdBox → Smhd
fields_smhd v = record { flags = v.flags; balance = v.balance; version = v.version }

abbrev pub smhd_of : Smhd → SmhdBox
smhd_of t = record { version = t.version; flags = t.flags; balance = t.balance }

abbrev pub fields_vmhd : VmhdBox → Vmhd
fields_vmhd v = record {
  flags = v.flags;
  graphics_mode = v.graphics_mode;
  red = v.op_color.red;
  green = v.op_color.green;
  blue = v.op_color.blue;
  version = v.version;
}

abbrev pub vmhd_of : Vmhd → VmhdBox
vmhd_of t = record {
  version = t.version;
  flags = t.flags;
  graphics_mode = t.graphics_mode;
  op_color = record { red = t.red; green = t.green; blue = t.blue };
}

abbrev pub fields_trex : TrexBox → Trex
fields_trex v = record {
  flags = v.flags;
  track_id = v.track_id;
  default_sample_description_index = v.default_sample_description_index;
  default_sample_duration = v.default_sample_duration;
  default_sample_size = v.default_sample_size;
  default_sample_flags = v.default_sample_flags;
  version = v.version;
}

abbrev pub trex_of : Trex → TrexBox
trex_of t = record {
  version = t.version;
  flags = t.flags;
  track_id = t.track_id;
  default_sample_description_index = t.default_sample_description_index;
  default_sample_duration = t.default_sample_duration;
  default_sample_size = t.default_sample_size;
  default_sample_flags = t.default_sample_flags;
}

abbrev pub fields_tfdt : TfdtBox → Tfdt
fields_tfdt v = record { base_media_decode_time = v.base_media_decode_time; flags = v.flags; version = v.version }

abbrev pub tfdt_of : Tfdt → TfdtBox
tfdt_of t = record { version = t.version; flags = t.flags; base_media_decode_time = t.base_media_decode_time }
