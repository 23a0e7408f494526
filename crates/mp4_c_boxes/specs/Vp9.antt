-- The structs for C of a vpcC and a vp09, and the boxes of such structs.
use Rattle.std.specs.Prelude.{nat_lt, if◌then◌else◌, ℕ, List, [], ◌∷◌, replicate, slice_index}
use Rattle.mp4_c_boxes.specs.declared.vp9.Vpcc.{Vpcc}
use Rattle.mp4_entries.specs.declared.vpcc.VpccBox.{VpccBox}
use Rattle.mp4_c_boxes.specs.declared.vp9.Vp09.{Vp09}
use Rattle.mp4_entries.specs.declared.vp09.Vp09Box.{Vp09Box}

abbrev pub fields_vpcc : VpccBox → Vpcc
fields_vpcc v = record {
  flags = v.flags;
  codec_initialization_data_size = v.codec_initialization_data_size;
  version = v.version;
  profile = v.profile;
  level = v.level;
  bit_depth = v.bit_depth;
  chroma_subsampling = v.chroma_subsampling;
  video_full_range_flag = if v.video_full_range_flag then 1 else 0;
  color_primaries = v.color_primaries;
  transfer_characteristics = v.transfer_characteristics;
  matrix_coefficients = v.matrix_coefficients;
}

abbrev pub no_vpcc : Vpcc
no_vpcc = record {
  flags = 0;
  codec_initialization_data_size = 0;
  version = 0;
  profile = 0;
  level = 0;
  bit_depth = 0;
  chroma_subsampling = 0;
  video_full_range_flag = 0;
  color_primaries = 0;
  transfer_characteristics = 0;
  matrix_coefficients = 0;
}

-- the box of this struct
abbrev pub vpcc_of : Vpcc → VpccBox
vpcc_of f = record {
  version = f.version;
  flags = f.flags;
  profile = f.profile;
  level = f.level;
  bit_depth = f.bit_depth;
  chroma_subsampling = f.chroma_subsampling;
  video_full_range_flag = nat_lt 0 f.video_full_range_flag;
  color_primaries = f.color_primaries;
  transfer_characteristics = f.transfer_characteristics;
  matrix_coefficients = f.matrix_coefficients;
  codec_initialization_data_size = f.codec_initialization_data_size;
}

abbrev pub fields_vp09 : Vp09Box → Vp09
fields_vp09 v = record {
  vpcc = fields_vpcc v.vpcc;
  flags = v.flags;
  start_code = v.start_code;
  data_reference_index = v.data_reference_index;
  width = v.width;
  height = v.height;
  horizresolution = v.horizresolution.0 ∷ v.horizresolution.1 ∷ [];
  vertresolution = v.vertresolution.0 ∷ v.vertresolution.1 ∷ [];
  frame_count = v.frame_count;
  depth = v.depth;
  end_code = v.end_code;
  version = v.version;
  reserved0 = v.reserved0;
  reserved1 = v.reserved1;
  compressorname = v.compressorname;
}

abbrev pub no_vp09 : Vp09
no_vp09 = record {
  vpcc = no_vpcc;
  flags = 0;
  start_code = 0;
  data_reference_index = 0;
  width = 0;
  height = 0;
  horizresolution = 0 ∷ 0 ∷ [];
  vertresolution = 0 ∷ 0 ∷ [];
  frame_count = 0;
  depth = 0;
  end_code = 0;
  version = 0;
  reserved0 = replicate 16 0;
  reserved1 = replicate 4 0;
  compressorname = replicate 32 0;
}

-- the whole part and the fraction of a resolution
abbrev pub resolution_of : List ℕ → ℕ × ℕ
resolution_of numbers = (slice_index numbers 0, slice_index numbers 1)

-- the box of this struct
abbrev pub vp09_of : Vp09 → Vp09Box
vp09_of f = record {
  version = f.version;
  flags = f.flags;
  start_code = f.start_code;
  data_reference_index = f.data_reference_index;
  reserved0 = f.reserved0;
  width = f.width;
  height = f.height;
  horizresolution = resolution_of f.horizresolution;
  vertresolution = resolution_of f.vertresolution;
  reserved1 = f.reserved1;
  frame_count = f.frame_count;
  compressorname = f.compressorname;
  depth = f.depth;
  end_code = f.end_code;
  vpcc = vpcc_of f.vpcc;
}
