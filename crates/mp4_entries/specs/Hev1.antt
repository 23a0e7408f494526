-- hev1, the sample entry of HEVC video (ISO/IEC 14496-15, 8.4.1): a visual sample entry with the child hvcC
use Rattle.std.specs.Prelude.{ℕ, List}
use Rattle.mp4_frame.specs.Format.{Format}
use Rattle.mp4_frame.specs.Reading.{Reading}
use Rattle.mp4_frame.specs.declared.box_type.BoxType.TheVariants as names
use Rattle.mp4_frame.specs.declared.codes.TheConstants as codes
use Rattle.mp4_media.specs.declared.hevc_config.HevcConfig.{HevcConfig}
use Rattle.mp4_entries.specs.Hvcc.{reads_hvcc, format_hvcc}
use Rattle.mp4_entries.specs.Visual.{visual_of, reads_visual, size_visual, format_visual}
use Rattle.mp4_entries.specs.declared.hev1.Hev1Box.{Hev1Box}
use Rattle.mp4_entries.specs.declared.hvcc.HvcCBox.{HvcCBox}
use Rattle.mp4_entries.specs.declared.visual.Visual.{Visual}

-- the fields of the visual sample entry, and the box with given fields and a given child
abbrev pub visual_hev1 : Hev1Box → Visual
visual_hev1 v = record {
  data_reference_index = v.data_reference_index;
  width = v.width;
  height = v.height;
  horizresolution = v.horizresolution;
  vertresolution = v.vertresolution;
  frame_count = v.frame_count;
  depth = v.depth;
}

abbrev pub hev1_of : Visual → HvcCBox → Hev1Box
hev1_of visual hvcc = record {
  data_reference_index = visual.data_reference_index;
  width = visual.width;
  height = visual.height;
  horizresolution = visual.horizresolution;
  vertresolution = visual.vertresolution;
  frame_count = visual.frame_count;
  depth = visual.depth;
  hvcc = hvcc;
}

unfoldable pub reads_hev1 : List ℕ → ℕ → ℕ → Reading Hev1Box
reads_hev1 bytes start size = reads_visual reads_hvcc codes.HVCC hev1_of bytes start size

abbrev pub size_hev1 : Hev1Box → ℕ
size_hev1 v = size_visual format_hvcc v.hvcc

-- the sample entry made from a configuration
abbrev pub made_hev1 : HevcConfig → Hev1Box
made_hev1 config = hev1_of (visual_of 1 config.width config.height) (record { configuration_version = 1 })

abbrev pub format_hev1 : Format Hev1Box
format_hev1 = format_visual names.Hev1Box format_hvcc visual_hev1 (λ v. v.hvcc) hev1_of
