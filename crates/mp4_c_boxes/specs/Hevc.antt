-- The structs for C of an hvcC and an hev1, and the box of such a struct.
use Rattle.mp4_c_boxes.specs.declared.hevc.Hvcc.{Hvcc}
use Rattle.mp4_entries.specs.declared.hvcc.HvcCBox.{HvcCBox}
use Rattle.mp4_c_boxes.specs.Visual.{no_visual, visual_of_hev1}
use Rattle.mp4_c_boxes.specs.declared.hevc.Hev1.{Hev1}
use Rattle.mp4_entries.specs.declared.hev1.Hev1Box.{Hev1Box}

abbrev pub fields_hvcc : HvcCBox → Hvcc
fields_hvcc v = record { configuration_version = v.configuration_version }

abbrev pub no_hvcc : Hvcc
no_hvcc = record { configuration_version = 0 }

abbrev pub fields_hev1 : Hev1Box → Hev1
fields_hev1 v = record { visual = visual_of_hev1 v; hvcc = fields_hvcc v.hvcc }

abbrev pub no_hev1 : Hev1
no_hev1 = record { visual = no_visual; hvcc = no_hvcc }

-- the box of this struct
abbrev pub hev1_of : Hev1 → Hev1Box
hev1_of f = record {
  data_reference_index = f.visual.data_reference_index;
  width = f.visual.width;
  height = f.visual.height;
  horizresolution = f.visual.horizresolution;
  vertresolution = f.visual.vertresolution;
  frame_count = f.visual.frame_count;
  depth = f.visual.depth;
  hvcc = record { configuration_version = f.hvcc.configuration_version };
}
