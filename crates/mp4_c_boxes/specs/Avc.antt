-- The structs and the parameter sets for C of an avcC and an avc1, and the boxes of them.
use Rattle.std.specs.Prelude.{ℕ, ◌+◌, ◌-◌, ◌^◌, ◌==◌, ◌&&◌, Bool, min, List, ◌++◌, length, sum, take, drop}
use Rattle.mp4_c_boxes.specs.Sets.{sets_of, size_of_sets}
use Rattle.mp4_c_boxes.specs.declared.avc.Avcc.{Avcc}
use Rattle.mp4_entries.specs.declared.avcc.AvcCBox.{AvcCBox}
use Rattle.mp4_entries.specs.declared.nal_unit.NalUnit.{NalUnit}
use Rattle.mp4_c_boxes.specs.Visual.{no_visual, visual_of_avc1}
use Rattle.mp4_c_boxes.specs.declared.avc.Avc1.{Avc1}
use Rattle.mp4_entries.specs.declared.avc1.Avc1Box.{Avc1Box}

-- all parameter sets: the sequence sets, then the picture sets
abbrev pub sets_avcc : AvcCBox → List NalUnit
sets_avcc v = v.sequence_parameter_sets ++ v.picture_parameter_sets

abbrev pub fields_avcc : AvcCBox → Avcc
fields_avcc v = record {
  sequence_count = length v.sequence_parameter_sets;
  picture_count = length v.picture_parameter_sets;
  set_bytes = min (size_of_sets (sets_avcc v)) (2 ^ 64 - 1);
  configuration_version = v.configuration_version;
  avc_profile_indication = v.avc_profile_indication;
  profile_compatibility = v.profile_compatibility;
  avc_level_indication = v.avc_level_indication;
  length_size_minus_one = v.length_size_minus_one;
}

abbrev pub no_avcc : Avcc
no_avcc = record {
  sequence_count = 0;
  picture_count = 0;
  set_bytes = 0;
  configuration_version = 0;
  avc_profile_indication = 0;
  profile_compatibility = 0;
  avc_level_indication = 0;
  length_size_minus_one = 0;
}

-- whether the struct counts as many sets as there are lengths, and there are as many bytes as the lengths add up to
abbrev pub fit_sets : Avcc → List ℕ → List ℕ → Bool
fit_sets f lengths bytes =
    (f.sequence_count + f.picture_count == length lengths) && (sum lengths == length bytes)

-- the box of this struct, with the parameter sets of these lengths and bytes
abbrev pub avcc_of : Avcc → List ℕ → List ℕ → AvcCBox
avcc_of f lengths bytes = record {
  configuration_version = f.configuration_version;
  avc_profile_indication = f.avc_profile_indication;
  profile_compatibility = f.profile_compatibility;
  avc_level_indication = f.avc_level_indication;
  length_size_minus_one = f.length_size_minus_one;
  sequence_parameter_sets = sets_of (take f.sequence_count lengths) bytes;
  picture_parameter_sets =
      sets_of (drop f.sequence_count lengths) (drop (sum (take f.sequence_count lengths)) bytes);
}

abbrev pub fields_avc1 : Avc1Box → Avc1
fields_avc1 v = record { avcc = fields_avcc v.avcc; visual = visual_of_avc1 v }

abbrev pub no_avc1 : Avc1
no_avc1 = record { avcc = no_avcc; visual = no_visual }

-- the box of this struct, with the parameter sets of these lengths and bytes
abbrev pub avc1_of : Avc1 → List ℕ → List ℕ → Avc1Box
avc1_of f lengths bytes = record {
  data_reference_index = f.visual.data_reference_index;
  width = f.visual.width;
  height = f.visual.height;
  horizresolution = f.visual.horizresolution;
  vertresolution = f.visual.vertresolution;
  frame_count = f.visual.frame_count;
  depth = f.visual.depth;
  avcc = avcc_of f.avcc lengths bytes;
}
