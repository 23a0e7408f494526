-- The codec's boxes of fixed fields, which are made of the parts that are taken.
use Rattle.std.specs.Prelude.{ℕ, ℤ, List}
use Rattle.std.specs.Int.{w16, w32, cast_unsigned}
use Rattle.mp4_flat.specs.declared.matrix.Matrix.{Matrix}
use Rattle.mp4_flat.specs.declared.mdhd.MdhdBox.{MdhdBox}
use Rattle.mp4_flat.specs.declared.mehd.MehdBox.{MehdBox}
use Rattle.mp4_flat.specs.declared.mfhd.MfhdBox.{MfhdBox}
use Rattle.mp4_flat.specs.declared.mvhd.MvhdBox.{MvhdBox}
use Rattle.mp4_flat.specs.declared.smhd.SmhdBox.{SmhdBox}
use Rattle.mp4_flat.specs.declared.tfdt.TfdtBox.{TfdtBox}
use Rattle.mp4_flat.specs.declared.tkhd.TkhdBox.{TkhdBox}
use Rattle.mp4_flat.specs.declared.trex.TrexBox.{TrexBox}
use Rattle.mp4_flat.specs.declared.vmhd.VmhdBox.{VmhdBox}

-- ---- mvhd

abbrev pub MvhdParts : Type 0
MvhdParts = ℕ × (ℕ × (ℕ × (ℕ × (ℕ × (ℕ × (ℤ × (ℤ × (Matrix × (ℕ × Unit {0})))))))))

abbrev pub make_mvhd : MvhdParts → MvhdBox
make_mvhd v = record {
  version = v.0;
  flags = v.1.0;
  creation_time = v.1.1.0;
  modification_time = v.1.1.1.0;
  timescale = v.1.1.1.1.0;
  duration = v.1.1.1.1.1.0;
  rate = cast_unsigned w32 v.1.1.1.1.1.1.0;
  volume = cast_unsigned w16 v.1.1.1.1.1.1.1.0;
  matrix = v.1.1.1.1.1.1.1.1.0;
  next_track_id = v.1.1.1.1.1.1.1.1.1.0;
}

-- ---- tkhd

abbrev pub TkhdParts : Type 0
TkhdParts = (ℕ × (ℕ × (ℕ × (ℕ × (ℕ × (ℕ × Unit {0})))))) × (ℤ × (ℤ × (ℤ × (Matrix × (ℕ × (ℕ × Unit {0}))))))

abbrev pub make_tkhd : TkhdParts → TkhdBox
make_tkhd v = record {
  version = v.0.0;
  flags = v.0.1.0;
  creation_time = v.0.1.1.0;
  modification_time = v.0.1.1.1.0;
  track_id = v.0.1.1.1.1.0;
  duration = v.0.1.1.1.1.1.0;
  layer = cast_unsigned w16 v.1.0;
  alternate_group = cast_unsigned w16 v.1.1.0;
  volume = cast_unsigned w16 v.1.1.1.0;
  matrix = v.1.1.1.1.0;
  width = v.1.1.1.1.1.0;
  height = v.1.1.1.1.1.1.0;
}

-- ---- mdhd

abbrev pub MdhdParts : Type 0
MdhdParts = ℕ × (ℕ × (ℕ × (ℕ × (ℕ × (ℕ × (List ℕ × Unit {0}))))))

abbrev pub make_mdhd : MdhdParts → MdhdBox
make_mdhd v = record {
  version = v.0;
  flags = v.1.0;
  creation_time = v.1.1.0;
  modification_time = v.1.1.1.0;
  timescale = v.1.1.1.1.0;
  duration = v.1.1.1.1.1.0;
  language = v.1.1.1.1.1.1.0;
}

-- ---- mehd

abbrev pub MehdParts : Type 0
MehdParts = ℕ × (ℕ × (ℕ × Unit {0}))

abbrev pub make_mehd : MehdParts → MehdBox
make_mehd v = record {
  version = v.0;
  flags = v.1.0;
  fragment_duration = v.1.1.0;
}

-- ---- mfhd

abbrev pub MfhdParts : Type 0
MfhdParts = ℕ × (ℕ × (ℕ × Unit {0}))

abbrev pub make_mfhd : MfhdParts → MfhdBox
make_mfhd v = record {
  version = v.0;
  flags = v.1.0;
  sequence_number = v.1.1.0;
}

-- ---- smhd

abbrev pub SmhdParts : Type 0
SmhdParts = ℕ × (ℕ × (ℤ × Unit {0}))

abbrev pub make_smhd : SmhdParts → SmhdBox
make_smhd v = record {
  version = v.0;
  flags = v.1.0;
  balance = v.1.1.0;
}

-- ---- vmhd

abbrev pub VmhdParts : Type 0
VmhdParts = ℕ × (ℕ × (ℕ × (ℕ × (ℕ × (ℕ × Unit {0})))))

abbrev pub make_vmhd : VmhdParts → VmhdBox
make_vmhd v = record {
  version = v.0;
  flags = v.1.0;
  graphics_mode = v.1.1.0;
  op_color = record { red = v.1.1.1.0; green = v.1.1.1.1.0; blue = v.1.1.1.1.1.0 };
}

-- ---- trex

abbrev pub TrexParts : Type 0
TrexParts = ℕ × (ℕ × (ℕ × (ℕ × (ℕ × (ℕ × (ℕ × Unit {0}))))))

abbrev pub make_trex : TrexParts → TrexBox
make_trex v = record {
  version = v.0;
  flags = v.1.0;
  track_id = v.1.1.0;
  default_sample_description_index = v.1.1.1.0;
  default_sample_duration = v.1.1.1.1.0;
  default_sample_size = v.1.1.1.1.1.0;
  default_sample_flags = v.1.1.1.1.1.1.0;
}

-- ---- tfdt

abbrev pub TfdtParts : Type 0
TfdtParts = ℕ × (ℕ × (ℕ × Unit {0}))

abbrev pub make_tfdt : TfdtParts → TfdtBox
make_tfdt v = record {
  version = v.0;
  flags = v.1.0;
  base_media_decode_time = v.1.1.0;
}
