-- The struct for C of the fields of a visual sample entry.
use Rattle.mp4_c_boxes.specs.declared.visual.Visual.{Visual}
use Rattle.mp4_entries.specs.declared.avc1.Avc1Box.{Avc1Box}
use Rattle.mp4_entries.specs.declared.hev1.Hev1Box.{Hev1Box}

abbrev pub visual_of_avc1 : Avc1Box → Visual
visual_of_avc1 v = record {
  horizresolution = v.horizresolution;
  vertresolution = v.vertresolution;
  data_reference_index = v.data_reference_index;
  width = v.width;
  height = v.height;
  frame_count = v.frame_count;
  depth = v.depth;
}

abbrev pub visual_of_hev1 : Hev1Box → Visual
visual_of_hev1 v = record {
  horizresolution = v.horizresolution;
  vertresolution = v.vertresolution;
  data_reference_index = v.data_reference_index;
  width = v.width;
  height = v.height;
  frame_count = v.frame_count;
  depth = v.depth;
}

abbrev pub no_visual : Visual
no_visual = record {
  horizresolution = 0;
  vertresolution = 0;
  data_reference_index = 0;
  width = 0;
  height = 0;
  frame_count = 0;
  depth = 0;
}
