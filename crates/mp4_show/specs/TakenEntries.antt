-- Sample entries of video and subtitles, which are made of the parts that are taken.
use Rattle.std.specs.Prelude.{ℕ, ℤ, ◌^◌, nat_lt, Bool, List, [], Ok, length}
use Rattle.json.specs.Json.{Json}
use Rattle.mp4_entries.specs.declared.avc1.Avc1Box.{Avc1Box}
use Rattle.mp4_entries.specs.declared.avcc.AvcCBox.{AvcCBox}
use Rattle.mp4_entries.specs.declared.hev1.Hev1Box.{Hev1Box}
use Rattle.mp4_entries.specs.declared.hvcc.HvcCBox.{HvcCBox}
use Rattle.mp4_entries.specs.declared.nal_unit.NalUnit.{NalUnit}
use Rattle.mp4_entries.specs.declared.rgba_color.RgbaColor.{RgbaColor}
use Rattle.mp4_entries.specs.declared.tx3g.Tx3gBox.{Tx3gBox}
use Rattle.mp4_entries.specs.declared.vp09.Vp09Box.{Vp09Box}
use Rattle.mp4_entries.specs.declared.vpcc.VpccBox.{VpccBox}
use Rattle.mp4_show.specs.declared.taken.entries.TheConstants.{AVCC}
use Rattle.mp4_shown.specs.TakenNumbers.{at_path}
use Rattle.mp4_shown.specs.TakenShapes.{Takes}
use Rattle.mp4_shown.specs.Taking.{Taking, expect, ◌>>=◌}
use Rattle.mp4_shown.specs.TakenValues.{hex_in}
use Rattle.mp4_shown.specs.declared.taken.error.Reason.TheVariants.{TooMany, WrongLength}

-- ---- avcC

abbrev make_nal : List ℕ → NalUnit
make_nal bytes = record { bytes = bytes }

-- a unit is its bytes
abbrev pub nal_taken : Json → Taking NalUnit
nal_taken j =
    at_path [] (hex_in j) >>= λ bytes. expect (nat_lt (length bytes) (2 ^ 16)) [] WrongLength >>= λ _.
    Ok (make_nal bytes)

abbrev pub AvccParts : Type 0
AvccParts = ℕ × (ℕ × (ℕ × (ℕ × (ℕ × (List NalUnit × (List NalUnit × Unit {0}))))))

abbrev pub make_avcc : AvccParts → AvcCBox
make_avcc v = record {
  configuration_version = v.0;
  avc_profile_indication = v.1.0;
  profile_compatibility = v.1.1.0;
  avc_level_indication = v.1.1.1.0;
  length_size_minus_one = v.1.1.1.1.0;
  sequence_parameter_sets = v.1.1.1.1.1.0;
  picture_parameter_sets = v.1.1.1.1.1.1.0;
}

-- at most 31 sequence sets and 255 picture sets
abbrev pub avcc_taken : Takes AvccParts → Takes AvcCBox
avcc_taken taken ms =
    taken ms >>= λ p. expect (nat_lt (length p.0.1.1.1.1.1.0) 32) AVCC.now.1.1.1.1.1.0.now TooMany >>= λ _.
    expect (nat_lt (length p.0.1.1.1.1.1.1.0) 256) AVCC.now.1.1.1.1.1.1.0.now TooMany >>= λ _. Ok (make_avcc p.0, p.1)

-- ---- hvcc

abbrev pub HvccParts : Type 0
HvccParts = ℕ × Unit {0}

abbrev pub make_hvcc : HvccParts → HvcCBox
make_hvcc v = record {
  configuration_version = v.0;
}

-- ---- avc1

abbrev pub Avc1Parts : Type 0
Avc1Parts = ℕ × (ℕ × (ℕ × (ℕ × (ℕ × (ℕ × (ℕ × (AvcCBox × Unit {0})))))))

abbrev pub make_avc1 : Avc1Parts → Avc1Box
make_avc1 v = record {
  data_reference_index = v.0;
  width = v.1.0;
  height = v.1.1.0;
  horizresolution = v.1.1.1.0;
  vertresolution = v.1.1.1.1.0;
  frame_count = v.1.1.1.1.1.0;
  depth = v.1.1.1.1.1.1.0;
  avcc = v.1.1.1.1.1.1.1.0;
}

-- ---- hev1

abbrev pub Hev1Parts : Type 0
Hev1Parts = ℕ × (ℕ × (ℕ × (ℕ × (ℕ × (ℕ × (ℕ × (HvcCBox × Unit {0})))))))

abbrev pub make_hev1 : Hev1Parts → Hev1Box
make_hev1 v = record {
  data_reference_index = v.0;
  width = v.1.0;
  height = v.1.1.0;
  horizresolution = v.1.1.1.0;
  vertresolution = v.1.1.1.1.0;
  frame_count = v.1.1.1.1.1.0;
  depth = v.1.1.1.1.1.1.0;
  hvcc = v.1.1.1.1.1.1.1.0;
}

-- ---- vpcc

abbrev pub VpccParts : Type 0
VpccParts = (ℕ × (ℕ × (ℕ × (ℕ × (ℕ × (ℕ × Unit {0})))))) × (Bool × (ℕ × (ℕ × (ℕ × (ℕ × Unit {0})))))

abbrev pub make_vpcc : VpccParts → VpccBox
make_vpcc v = record {
  version = v.0.0;
  flags = v.0.1.0;
  profile = v.0.1.1.0;
  level = v.0.1.1.1.0;
  bit_depth = v.0.1.1.1.1.0;
  chroma_subsampling = v.0.1.1.1.1.1.0;
  video_full_range_flag = v.1.0;
  color_primaries = v.1.1.0;
  transfer_characteristics = v.1.1.1.0;
  matrix_coefficients = v.1.1.1.1.0;
  codec_initialization_data_size = v.1.1.1.1.1.0;
}

-- ---- vp09

abbrev pub Vp09Parts : Type 0
Vp09Parts =
    (ℕ × (ℕ × (ℕ × (ℕ × (List ℕ × (ℕ × (ℕ × Unit {0})))))))
    × ((ℕ × ℕ) × ((ℕ × ℕ) × (List ℕ × (ℕ × (List ℕ × (ℕ × (ℕ × (VpccBox × Unit {0}))))))))

abbrev pub make_vp09 : Vp09Parts → Vp09Box
make_vp09 v = record {
  version = v.0.0;
  flags = v.0.1.0;
  start_code = v.0.1.1.0;
  data_reference_index = v.0.1.1.1.0;
  reserved0 = v.0.1.1.1.1.0;
  width = v.0.1.1.1.1.1.0;
  height = v.0.1.1.1.1.1.1.0;
  horizresolution = v.1.0;
  vertresolution = v.1.1.0;
  reserved1 = v.1.1.1.0;
  frame_count = v.1.1.1.1.0;
  compressorname = v.1.1.1.1.1.0;
  depth = v.1.1.1.1.1.1.0;
  end_code = v.1.1.1.1.1.1.1.0;
  vpcc = v.1.1.1.1.1.1.1.1.0;
}

-- ---- color

abbrev pub ColorParts : Type 0
ColorParts = ℕ × (ℕ × (ℕ × (ℕ × Unit {0})))

abbrev pub make_color : ColorParts → RgbaColor
make_color v = record {
  red = v.0;
  green = v.1.0;
  blue = v.1.1.0;
  alpha = v.1.1.1.0;
}

-- ---- tx3g

abbrev pub Tx3gParts : Type 0
Tx3gParts = ℕ × (ℕ × (ℤ × (ℤ × (RgbaColor × (List ℤ × (List ℕ × Unit {0}))))))

abbrev pub make_tx3g : Tx3gParts → Tx3gBox
make_tx3g v = record {
  data_reference_index = v.0;
  display_flags = v.1.0;
  horizontal_justification = v.1.1.0;
  vertical_justification = v.1.1.1.0;
  bg_color_rgba = v.1.1.1.1.0;
  box_record = v.1.1.1.1.1.0;
  style_record = v.1.1.1.1.1.1.0;
}
